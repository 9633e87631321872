-- Found numbers in lent room: the first ones, and one more.
use Rattle.std.proofs.Common.{◌≡◌, ◌≢◌, ℕ, zero, suc, ◌+◌, ◌<◌, Bool, false, List, [], ◌∷◌, ◌++◌, take, length, get_or, set, replicate, eqb, slice_get, Some, sym, ap, ◌∙◌, refl, arith}
use Rattle.std.proofs.Math.ListN.{get_or-map}
use Rattle.std.proofs.lemmas.Bool.{cases_lt, ne_eqb}
use Rattle.std.proofs.lemmas.List.{length-set, length-map, length-replicate, length-take-le, get_or-take, get_or-replicate, get_or_past, map-set, take_more_set}
use Rattle.std.proofs.lemmas.List.Elements.{All-nil}
use Rattle.std.proofs.lemmas.List.Folds.{sum_by-replicate}
use Rattle.std.proofs.lemmas.Option.{slice_get-get_or}
use Rattle.net_graph.specs.Flags.{has}
use Rattle.net_graph.specs.Found.{AreMarksOf, flags_of_marks, AreFoundInRoom}
use Rattle.net_graph.proofs.lemmas.FoundLemmas.{room_left, AreMarksOf-more}

-- a number's flag is whether its mark is 1
pub flag_of_mark : (marks : List ℕ) (v : ℕ) → has (flags_of_marks marks) v ≡ eqb (get_or marks v 0) 1
flag_of_mark marks v = get_or-map (λ (m : ℕ). eqb m 1) marks v 0

-- while some number has no mark there is room
pub room_in_queue : (marks queue : List ℕ) (count v : ℕ) → AreFoundInRoom marks queue count → v < length marks → get_or marks v 0 ≢ 1 → count < length queue
room_in_queue marks queue count v are below unmarked =
    grind (arith, length-map, flag_of_mark marks v, ne_eqb (get_or marks v 0) 1 unmarked, length-take-le count queue (are.within), room_left)

-- the queue with one more number
pub queue_more : (queue : List ℕ) (count v : ℕ) → count < length queue → take (count + 1) (set queue count v) ≡ take count queue ++ v ∷ []
queue_more queue count v room = take_more_set queue count v room

-- one more number and its mark
pub AreFoundInRoom-more : (marks queue : List ℕ) (count v : ℕ) → AreFoundInRoom marks queue count → v < length marks → get_or marks v 0 ≢ 1 →
    AreFoundInRoom (set marks v 1) (set queue count v) (count + 1)
AreFoundInRoom-more marks queue count v are below unmarked =
    let room : count < length queue = room_in_queue marks queue count v are below unmarked in
    let long : length (flags_of_marks marks) ≡ length marks = length-map marks (λ (m : ℕ). eqb m 1) in
    let flag : has (flags_of_marks marks) v ≡ false = flag_of_mark marks v ∙ ne_eqb (get_or marks v 0) 1 unmarked in
    let size : length queue ≡ length marks = are.size in
    record {
      size = length-set queue count v ∙ size ∙ sym (length-set marks v 1);
      within = omega (arith, length-set queue count v);
      marked = rw (queue_more queue count v room, map-set (λ (m : ℕ). eqb m 1) marks v 1)
          (AreMarksOf-more (take count queue) (flags_of_marks marks) v are.marked (omega arith) flag);
    }

-- marks of 0 are no marks
flags_of_zeros : (size : ℕ) → flags_of_marks (replicate size 0) ≡ replicate size false
flags_of_zeros zero = refl
flags_of_zeros (suc size) = ap (λ (l : List Bool). false ∷ l) (flags_of_zeros size)

-- no number is found where there is no mark
AreMarksOf-none : (size : ℕ) → AreMarksOf [] (replicate size false)
AreMarksOf-none size =
    grind (arith, All-nil, get_or-replicate, get_or_past, length-replicate, cases_lt, sum_by-replicate)

-- nothing was found
pub AreFoundInRoom-none : (marks queue : List ℕ) (size : ℕ) → marks ≡ replicate size 0 → length queue ≡ size → AreFoundInRoom marks queue 0
AreFoundInRoom-none marks queue size zeros long =
    grind (arith, length-replicate, flags_of_zeros size, AreMarksOf-none size)

-- the number at a place before the count
pub at_place : (marks queue : List ℕ) (count place : ℕ) → AreFoundInRoom marks queue count → place < count → slice_get (take count queue) place ≡ Some (get_or queue place 0)
at_place marks queue count place are before =
    grind (arith, length-take-le count queue (are.within), slice_get-get_or, get_or-take count queue place 0 before)
