-- How steps of a generation follow one another.
use Rattle.std.specs.Prelude.{ℕ, ◌⊎◌, List, Result, Ok, Err}
use Rattle.std.proofs.Common.{⊎_elim, arith}
use Rattle.std.specs.BTreeMap.{BTreeMap}
use Rattle.points_in.specs.declared.point.Point.{Point}
use Rattle.full_tree.specs.declared.code.Tree.{Tree}
use Rattle.full_tree.specs.declared.code.TreeCode.{TreeCode}
use Rattle.fst_gen.specs.declared.fault.GenFault.{GenFault}
use Rattle.fst_gen.specs.Trees.{IsWanted}
use Rattle.fst_gen.specs.Store.{IsStore, Stores, Generates}

-- no wanted code is of this kind
abbrev pub NoneWanted : List Point → ℕ → (TreeCode → Type 0) → Type 0
NoneWanted ps k Kind = (code : TreeCode) → Kind code → IsWanted ps k code → ⊥

module _ (ps : List Point) (k : ℕ) where
  -- where no wanted code is of the kind, nothing is to be done
  pub Stores-none : (Kind : TreeCode → Type 0) (trees : BTreeMap ℕ Tree) → IsStore ps k trees → NoneWanted ps k Kind
      → Stores ps k Kind trees trees
  Stores-none Kind trees store none = grind arith

  -- one step after another stores the codes of both kinds
  pub Stores-then : (First Second Both : TreeCode → Type 0) (old mid new : BTreeMap ℕ Tree)
      → Stores ps k First old mid → Stores ps k Second mid new
      → ((code : TreeCode) → Both code → IsWanted ps k code → First code ⊎ Second code)
      → Stores ps k Both old new
  Stores-then First Second Both old mid new a b either = record {
    store = b.store;
    grows = λ code covered. b.grows code (a.grows code covered);
    covers = λ code both wanted. ⊎_elim
        (λ (first : First code). b.grows code (a.covers code first wanted))
        (λ (second : Second code). b.covers code second wanted)
        (either code both wanted);
  }

  -- a kind within another
  pub Stores-only : (Wide Narrow : TreeCode → Type 0) (old new : BTreeMap ℕ Tree) → Stores ps k Wide old new
      → ((code : TreeCode) → Narrow code → IsWanted ps k code → Wide code) → Stores ps k Narrow old new
  Stores-only Wide Narrow old new a within = grind arith

  -- a step behind another one, which may end the work
  pub Generates-then : (First Second Both : TreeCode → Type 0) (old mid new : BTreeMap ℕ Tree) (result : Result (Unit {0}) GenFault)
      → Stores ps k First old mid → Generates ps k Second mid new result
      → ((code : TreeCode) → Both code → IsWanted ps k code → First code ⊎ Second code)
      → Generates ps k Both old new result
  Generates-then First Second Both old mid new (Ok done) a b either = Stores-then First Second Both old mid new a b either
  Generates-then First Second Both old mid new (Err fault) a b either = b

  pub Generates-only : (Wide Narrow : TreeCode → Type 0) (old new : BTreeMap ℕ Tree) (result : Result (Unit {0}) GenFault)
      → Generates ps k Wide old new result → ((code : TreeCode) → Narrow code → IsWanted ps k code → Wide code)
      → Generates ps k Narrow old new result
  Generates-only Wide Narrow old new result a within = grind arith
