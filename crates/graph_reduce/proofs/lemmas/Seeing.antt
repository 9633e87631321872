-- The edges of a node, seen place after place.
use Rattle.std.specs.Prelude.{ℕ, ◌≡◌, ◌+◌, ◌≤◌, length}
use Rattle.std.proofs.Common.{inl, inr, arith}
use Rattle.std.proofs.lemmas.Bool.{cases_eq, cases_lt}
use Rattle.std.specs.BTreeSet.{BTreeSet}
use Rattle.graph_reduce.specs.NumberSets.{IsNextIn}
use Rattle.graph_reduce.specs.State.{State, EndsIn}
use Rattle.graph_reduce.specs.Survey.{IsNextEnd, HasOneBelow, HasTwoBelow, HasPlacesOf}
use Rattle.graph_reduce.proofs.lemmas.NodeKinds.{below_end}

module _ (s : State) (v : ℕ) where
  -- the next place of a set that has all of a node's is the node's next
  pub next_seen : (set : BTreeSet ℕ) (start place : ℕ) → HasPlacesOf s v set → IsNextIn set start place →
      EndsIn s v place → IsNextEnd s v start place
  next_seen set start place has next ends = record {
    from = next.from;
    ends = ends;
    none = λ n from below is. (let least = next.least n from (has n is) in omega (arith, least, below));
  }

  -- no place but these
  other_place : (one n : ℕ) → ((k : ℕ) → one + 1 ≤ k → ¬ EndsIn s v k) → one ≤ n → EndsIn s v n → n ≡ one
  other_place one n none least is = elim (cases_eq n one) [
    | inl same ↦ same
    | inr apart ↦ absurd (none n (omega (arith, least, apart)) is)
  ]

  pub one_seen : (one : ℕ) → IsNextEnd s v 0 one → ((n : ℕ) → one + 1 ≤ n → ¬ EndsIn s v n) →
      HasOneBelow s v (length s.edges) one
  one_seen one first none = record {
    below = below_end s v one first.ends;
    ends = first.ends;
    only = λ n below is. elim (cases_lt n one) [
      | inl lower ↦ absurd (first.none n (omega arith) lower is)
      | inr least ↦ other_place one n none least is
    ];
  }

  pub two_seen : (one two : ℕ) → IsNextEnd s v 0 one → IsNextEnd s v (one + 1) two →
      ((n : ℕ) → two + 1 ≤ n → ¬ EndsIn s v n) → HasTwoBelow s v (length s.edges) one two
  two_seen one two first second none = record {
    order = (let next = second.from in omega arith);
    below = below_end s v two second.ends;
    first = first.ends;
    second = second.ends;
    only = λ n below is apart. elim (cases_lt n two) [
      | inl lower ↦ absurd (elim (cases_lt n one) [
        | inl lowest ↦ first.none n (omega arith) lowest is
        | inr least ↦ second.none n (omega (arith, least, apart)) lower is
      ])
      | inr least ↦ other_place two n none least is
    ];
  }
