-- Found numbers, each in a list and with a mark.
use Rattle.std.specs.Prelude.{ℕ, ◌≡◌, ◌<◌, ◌≤◌, ◌==◌, ◌↔◌, Bool, true, List, map, take, length, count_by, All, Contains}
use Rattle.net_graph.specs.Flags.{has}
use Rattle.net_graph.specs.Search.{Finds}

-- the marked numbers are those of the list, and there are as many marks as places in it
pub record AreMarksOf (order : List ℕ) (marks : List Bool) : Type 0 where
  pub below : All (λ v. v < length marks) order
  pub marked : (v : ℕ) → Contains order v → has marks v ≡ true
  pub listed : (v : ℕ) → has marks v ≡ true → Contains order v
  pub count : length order ≡ count_by (λ flag. flag) marks

-- the members are the found numbers, and there are as many as were found
pub record HasMembers (found : Finds) (members : List Bool) : Type 0 where
  pub size : length members ≡ found.size
  pub flags : (v : ℕ) → (has members v ≡ true) ↔ Contains found.order v
  pub count : count_by (λ flag. flag) members ≡ length found.order

-- the flags that a list of marks keeps: a number is marked by 1
abbrev pub flags_of_marks : List ℕ → List Bool
flags_of_marks marks = map (λ mark. mark == 1) marks

-- found numbers in lent room: so many at the head of the queue, and their marks
pub record AreFoundInRoom (marks queue : List ℕ) (count : ℕ) : Type 0 where
  pub size : length queue ≡ length marks
  pub within : count ≤ length queue
  pub marked : AreMarksOf (take count queue) (flags_of_marks marks)
