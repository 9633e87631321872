use Rattle.std.proofs.Common.{◌≡◌, ◌++◌, take}
use Rattle.full_tree.proofs.membership.PlaceArray.push_all.Given as goal

-- the places so far are appended
abbrev pub invariant-loop-place : goal.invariant-loop-place
invariant-loop-place l = l.self ≡ l.initial.self ++ take l.place-index l.places
