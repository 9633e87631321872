-- The strokes of a network, flag by flag.
use Rattle.std.proofs.Common.{ℕ, ◌≡◌, ◌+◌, ◌<◌, Bool, List, [], ◌∷◌, ◌++◌, length, take, flat_map, append_assoc, sym, arith}
use Rattle.std.specs.Prelude.{if◌then◌else◌}
use Rattle.std.proofs.lemmas.Grind.{flat_map-append}
use Rattle.lists.specs.ListLaws.{flat_map-if}
use Rattle.net_graph.specs.Flags.{has}
use Rattle.net_graph.specs.Members.{members_of}
use Rattle.net_graph.specs.MembersLaws.{members_of-more}

-- the text of one number more of a set, if it has it
pub members-take_more : (f : ℕ → List ℕ) (set : List Bool) (n : ℕ) → n < length set →
    flat_map f (members_of (take n set)) ++ (if has set n then f n else []) ≡ flat_map f (members_of (take (n + 1) set))
members-take_more f set n within =
    grind (arith, flat_map-if f (has set n) n, flat_map-append f (members_of (take n set)) (if has set n then n ∷ [] else []), members_of-more set n within)

-- five pieces in any grouping
pub five_pieces : (a b c d e : List ℕ) → a ++ (b ++ (c ++ (d ++ e))) ≡ (((a ++ b) ++ c) ++ d) ++ e
five_pieces a b c d e = sym (simp append_assoc)
