-- The longer of two parallel edges, on a tie the later.
use Rattle.graph_reduce.proofs.lemmas.Keeping.{found_before}
use Rattle.std.specs.Prelude.{ℕ, ◌≡◌, ◌+◌, ◌<◌, ◌≤◌, Bool, true, false, length, nat_lt, None, if◌then◌else◌}
use Rattle.std.proofs.Common.{refl, sym, ap, subst, length-set, arith}
use Rattle.std.proofs.lemmas.Bool.{lt-ltb, le-ltb}
use Rattle.net_graph.specs.declared.edge.Edge.{Edge}
use Rattle.net_graph.specs.Network.{HasEnds}
use Rattle.graph_reduce.specs.State.{Bundle, State, HasEdge}
use Rattle.graph_reduce.specs.Rules.{AreParallel, without_edge}
use Rattle.graph_reduce.specs.Clear.{LeadsTo, IsClearTo}
use Rattle.graph_reduce.proofs.lemmas.Clearing.{one_step, clear_within, none_at, drops_parallel, clear_later}

-- the place holds an edge with these ends and this length
abbrev pub HoldsEdge : State → ℕ → Edge → Type 0
HoldsEdge s place e = (x : Bundle) × HasEdge s place x × (x.edge ≡ e)

-- two places hold these edges
pub record Pair (s : State) (place later : ℕ) (x y : Edge) : Type 0 where
  pub first : HoldsEdge s place x
  pub second : HoldsEdge s later y

pub longer_chosen : (y x place later : ℕ) → y < x → place ≡ (if nat_lt y x then place else later)
longer_chosen y x place later less = sym (ap (λ b. if b then place else later) (lt-ltb y x less))

pub later_chosen : (y x place later : ℕ) → x ≤ y → later ≡ (if nat_lt y x then place else later)
later_chosen y x place later least = sym (ap (λ b. if b then place else later) (le-ltb y x least))

module _ (s : State) (place later : ℕ) (x y : Edge) where
  abbrev dropped : State
  dropped = without_edge s (if nat_lt y.length x.length then place else later)

  pub leads_dropped : Pair s place later x y → place < later → IsClearTo s (length s.edges) place later →
      HasEnds y x.a x.b → (new : State) → new ≡ dropped → LeadsTo s new
  leads_dropped pair order clear ends new is = grind (arith, drops_parallel, one_step)

  -- one of the two places is empty
  gone : (n : Bool) (a b : Bundle) → ¬ AreParallel (without_edge s (if n then place else later)) place later a b
  gone true a b are = none_at s place a are.first_at
  gone false a b are = none_at s later b are.second_at

  pub clear_dropped : IsClearTo s (length s.edges) place later → (new : State) → new ≡ dropped →
      IsClearTo new (length new.edges) place (later + 1)
  clear_dropped clear new is = subst (λ t. IsClearTo t (length t.edges) place (later + 1)) (sym is)
      (clear_later dropped (length dropped.edges) place later
      (subst (λ n. IsClearTo dropped n place later) (sym (length-set s.edges
      (if nat_lt y.length x.length then place else later) None))
      (clear_within dropped s (length s.edges) place later
      (grind (arith, length-set s.edges (if nat_lt y.length x.length then place else later) None, found_before)) refl clear))
      (λ a b. gone (nat_lt y.length x.length) a b))
