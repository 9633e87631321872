-- Found numbers: one more number and its mark.
use Rattle.std.proofs.Common.{◌≡◌, ℕ, ◌+◌, ◌<◌, Bool, true, false, List, [], ◌∷◌, ◌++◌, length, set, count_by, ⊎_elim, sym, ◌∙◌, arith, length-append}
use Rattle.std.proofs.lemmas.Bool.{cases_eq}
use Rattle.std.proofs.lemmas.List.{length-set, get_or-set_same, get_or-set_other}
use Rattle.std.proofs.lemmas.List.Elements.{Contains-append_left, Contains-push, Contains-push_cases, All-push}
use Rattle.std.proofs.lemmas.List.Sums.{count_by-le-length, sum_by-set}
use Rattle.net_graph.specs.Flags.{has}
use Rattle.net_graph.specs.Found.{AreMarksOf}

-- one more mark is one more that is counted
count-set : (marks : List Bool) (v : ℕ) → v < length marks → has marks v ≡ false → count_by (λ flag. flag) (set marks v true) ≡ count_by (λ flag. flag) marks + 1
count-set marks v within unmarked = grind (arith, sum_by-set)

-- while some number has no mark there are fewer in the list than numbers
pub room_left : (order : List ℕ) (marks : List Bool) (v : ℕ) → AreMarksOf order marks → v < length marks → has marks v ≡ false → length order < length marks
room_left order marks v are within unmarked =
    grind (arith, count-set marks v within unmarked, count_by-le-length, length-set marks v true)

-- one more number and its mark
pub AreMarksOf-more : (order : List ℕ) (marks : List Bool) (v : ℕ) → AreMarksOf order marks → v < length marks → has marks v ≡ false → AreMarksOf (order ++ v ∷ []) (set marks v true)
AreMarksOf-more order marks v are within unmarked = record {
  below = rw length-set (All-push (λ w. w < length marks) order v are.below within);
  marked = λ w found. ⊎_elim (λ old. ⊎_elim (λ same. rw same (get_or-set_same marks v true false within)) (λ other. get_or-set_other marks v w true false other ∙ are.marked w old) (cases_eq w v))
      (λ same. rw (← same) (get_or-set_same marks v true false within)) (Contains-push_cases order v w found);
  listed = λ w marked. ⊎_elim (λ same. rw same (Contains-push order v))
      (λ other. Contains-append_left order (v ∷ []) w (are.listed w (sym (get_or-set_other marks v w true false other) ∙ marked))) (cases_eq w v);
  count = let count : length order ≡ count_by (λ flag. flag) marks = are.count in omega (arith, length-append order (v ∷ []), count-set marks v within unmarked);
}
