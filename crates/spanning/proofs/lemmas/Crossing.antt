-- Where a walk leaves a set of numbers for the last time.
use Rattle.std.proofs.Common.{ℕ, zero, suc, ◌≡◌, Bool, true, false, List, inl, inr, cond, not, subst, refl, arith}
use Rattle.std.proofs.lemmas.Bool.{cases_Bool, both_ways, not-true}
use Rattle.net_graph.specs.Flags.{has}
use Rattle.net_graph.specs.Network.{HasEnds}
use Rattle.net_graph.specs.Search.{StepWalk, Leads}
use Rattle.net_graph.specs.SearchLaws.{Leads-start, Leads-more}
use Rattle.spanning.specs.declared.pair.Pair.{Pair}
use Rattle.spanning.specs.Joining.{edge_of}
use Rattle.spanning.specs.Leaving.{leaves}

-- a step whose ends are both outside the set
abbrev pub OutsideStep : (ℕ → ℕ → Type 0) → List Bool → ℕ → ℕ → Type 0
OutsideStep Step inside i j = Step i j × (has inside i ≡ false) × (has inside j ≡ false)

-- a step from x to y leaves the set, and what follows it up to the end stays outside
pub record LastLeaving (Step : ℕ → ℕ → Type 0) (inside : List Bool) (end : ℕ) : Type 0 where
  pub x : ℕ
  pub y : ℕ
  pub x_in : has inside x ≡ true
  pub y_out : has inside y ≡ false
  pub step : Step x y
  pub rest : Leads (OutsideStep Step inside) y end

-- a walk from inside to outside has such a step
pub last_leaving : (Step : ℕ → ℕ → Type 0) (inside : List Bool) (v : ℕ) → has inside v ≡ true → (n w : ℕ) →
    StepWalk Step v w n → has inside w ≡ false → LastLeaving Step inside w
last_leaving Step inside v v_in zero w is w_out = absurd (both_ways (has inside w) w_out (subst (λ x. has inside x ≡ true) is v_in))
last_leaving Step inside v v_in (suc n) w (u, walk, step) w_out = elim (cases_Bool (has inside u)) [
  | inl u_in ↦ record { x = u; y = w; x_in = u_in; y_out = w_out; step = step; rest = Leads-start (OutsideStep Step inside) w }
  | inr u_out ↦
      let before : LastLeaving Step inside u = last_leaving Step inside v v_in n u walk u_out in
      record {
        x = before.x;
        y = before.y;
        x_in = before.x_in;
        y_out = before.y_out;
        step = before.step;
        rest = Leads-more (OutsideStep Step inside) before.y u w before.rest (step, u_out, w_out);
      }
]

-- the pair's number inside the set and its number outside
pub record LeavesFrom (inside : List Bool) (pair : Pair) : Type 0 where
  pub inner : ℕ
  pub outer : ℕ
  pub ends : HasEnds (edge_of pair) inner outer
  pub inner_in : has inside inner ≡ true
  pub outer_out : has inside outer ≡ false

-- a pair with just one number inside leaves
leaves_one : (s t : Bool) → s ≡ true → t ≡ false → (cond s (not t) t ≡ true) × (cond t (not s) s ≡ true)
leaves_one s t is_in is_out = rw (is_in, is_out) (refl, refl)

pub leaves-from_ends : (inside : List Bool) (pair : Pair) (x y : ℕ) → HasEnds (edge_of pair) x y →
    has inside x ≡ true → has inside y ≡ false → leaves inside pair ≡ true
leaves-from_ends inside pair x y ends x_in y_out = grind (arith, leaves_one)

-- the second number of a pair that leaves is outside where the first is inside
out_from_in : (s t : Bool) → cond s (not t) t ≡ true → s ≡ true → t ≡ false
out_from_in true t is first = not-true t is
out_from_in false t is first = absurd cc

pub second_out : (inside : List Bool) (pair : Pair) → leaves inside pair ≡ true → has inside pair.a ≡ true →
    has inside pair.b ≡ false
second_out inside pair is first = out_from_in (has inside pair.a) (has inside pair.b) is first

-- .. and inside where the first is outside
in_from_out : (s t : Bool) → cond s (not t) t ≡ true → s ≡ false → t ≡ true
in_from_out true t is first = absurd cc
in_from_out false t is first = is

pub second_in : (inside : List Bool) (pair : Pair) → leaves inside pair ≡ true → has inside pair.a ≡ false →
    has inside pair.b ≡ true
second_in inside pair is first = in_from_out (has inside pair.a) (has inside pair.b) is first
