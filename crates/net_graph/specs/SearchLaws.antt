-- What walks by single steps come to.
use Rattle.std.specs.Prelude.{ℕ, zero, suc}
use Rattle.std.proofs.Common.{refl, subst}
use Rattle.net_graph.specs.Search.{StepWalk, Leads}

-- a vertex leads to itself
pub Leads-start : (Step : ℕ → ℕ → Type 0) (v : ℕ) → Leads Step v v
Leads-start Step v = (zero, refl)

-- one step more
pub Leads-more : (Step : ℕ → ℕ → Type 0) (v u w : ℕ) → Leads Step v u → Step u w → Leads Step v w
Leads-more Step v u w (n, walk) step = (suc n, (u, walk, step))

-- what holds at the start and is kept by each step holds wherever a walk ends
walk_keeps : (Step : ℕ → ℕ → Type 0) (P : ℕ → Type 0) (v : ℕ) → P v → ((u w : ℕ) → P u → Step u w → P w) →
    (n w : ℕ) → StepWalk Step v w n → P w
walk_keeps Step P v here kept zero w is = subst P is here
walk_keeps Step P v here kept (suc n) w (u, walk, step) = kept u w (walk_keeps Step P v here kept n u walk) step

-- .. and so wherever the start leads to
pub Leads-keeps : (Step : ℕ → ℕ → Type 0) (P : ℕ → Type 0) (v w : ℕ) → P v → ((u w : ℕ) → P u → Step u w → P w) →
    Leads Step v w → P w
Leads-keeps Step P v w here kept (n, walk) = walk_keeps Step P v here kept n w walk

-- one walk after another
pub Leads-trans : (Step : ℕ → ℕ → Type 0) (v u w : ℕ) → Leads Step v u → Leads Step u w → Leads Step v w
Leads-trans Step v u w first second = Leads-keeps Step (Leads Step v) u w first
    (λ x y led step. Leads-more Step v x y led step) second

-- a walk by some steps is a walk by steps that include them
pub Leads-weaker : (Step Wider : ℕ → ℕ → Type 0) → ((u w : ℕ) → Step u w → Wider u w) → (v w : ℕ) → Leads Step v w →
    Leads Wider v w
Leads-weaker Step Wider wider v w led = Leads-keeps Step (Leads Wider v) v w (Leads-start Wider v)
    (λ x y so_far step. Leads-more Wider v x y so_far (wider x y step)) led

-- a walk by steps that can be taken back leads back
pub Leads-back : (Step Back : ℕ → ℕ → Type 0) → ((u w : ℕ) → Step u w → Back w u) → (v w : ℕ) → Leads Step v w →
    Leads Back w v
Leads-back Step Back back v w led = Leads-keeps Step (λ x. Leads Back x v) v w (Leads-start Back v)
    (λ x y so_far step. Leads-trans Back y x v (Leads-more Back y y x (Leads-start Back y) (back x y step)) so_far) led
