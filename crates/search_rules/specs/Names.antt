-- The rules that words name.
use Rattle.std.specs.Prelude.{◌≡◌, List, ℕ, Option, Some, None, Result, MatchResult, codes, if◌then◌else◌}
use Rattle.std.specs.Str.{bytes_eq}
use Rattle.search_rules.specs.declared.rules.AscentRule.{AscentRule}
use Rattle.search_rules.specs.declared.rules.AscentRule.TheVariants as ascent
use Rattle.search_rules.specs.declared.rules.SplitRule.{SplitRule}
use Rattle.search_rules.specs.declared.rules.SplitRule.TheVariants as split

-- the result is the value that the text names, and an error where it names none
abbrev pub IsNamed : {T E : Type 0} → Option T → Result T E → Type 0
IsNamed named r = MatchResult r (λ v. named ≡ Some v) (λ _. named ≡ None)

abbrev pub ascent_named : List ℕ → Option AscentRule
ascent_named text = if bytes_eq text (codes "least") then Some ascent.Least
    else (if bytes_eq text (codes "first") then Some ascent.First else None)

abbrev pub split_named : List ℕ → Option SplitRule
split_named text = if bytes_eq text (codes "longest") then Some split.Longest
    else (if bytes_eq text (codes "first") then Some split.First
    else (if bytes_eq text (codes "vertex") then Some split.Vertex else None))
