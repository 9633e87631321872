-- Why a line of a file is wrong behind what the lines before it told, but for what is wrong in any text of sections. Of
-- the faults of one line the first in the stated order counts.
use Rattle.std.specs.Prelude.{ℕ, ◌≡◌, ◌≢◌, ◌-◌, ◌≤◌, ◌^◌, ◌⊎◌, List, length, slice_get, IfSome}
use Rattle.std.specs.declared.cmp.Ordering.TheVariants.{Less}
use Rattle.points_in.specs.declared.point.Point.{Point}
use Rattle.full_tree.specs.declared.code.Tree.{Tree}
use Rattle.full_tree.specs.Form.{IsInForm}
use Rattle.full_tree.specs.Pieces.{code_length}
use Rattle.full_tree.specs.Order.{tree_cmp}
use Rattle.section_text.specs.declared.fault.LineFault.{LineFault}
use Rattle.section_text.specs.declared.fault.LineFault.TheVariants as line
use Rattle.fst_file.specs.declared.fault.FstFault.{FstFault}
use Rattle.fst_file.specs.declared.fault.FstFault.TheVariants.{BadLine, TooManyPoints, RepeatedPoint, TooLong}
use Rattle.fst_file.specs.declared.fault.FstFault.TheVariants.{TooManyTrees, NotInForm, WrongLength, OutOfOrder}
use Rattle.fst_file.specs.Value.{IsTreeOf, grid_total}

-- what is wrong in any text of sections
abbrev pub fst_fault_of : LineFault → FstFault
fst_fault_of (line.BadLine n) = BadLine n
fst_fault_of (line.TooManyPoints n) = TooManyPoints n
fst_fault_of (line.RepeatedPoint n) = RepeatedPoint n
fst_fault_of (line.TooManyItems n) = TooManyTrees n

-- the grid of the points is too long, and is so long
abbrev pub IsTooLong : List Point → FstFault → Type 0
IsTooLong ps f = (2 ^ 63 ≤ grid_total ps) × (f ≡ TooLong (grid_total ps))

-- the tree comes after the last one of the list in file order
abbrev pub Follows : List Tree → Tree → Type 0
Follows ts t = IfSome (slice_get ts (length ts - 1)) (λ last. tree_cmp last t ≡ Less)

-- a spelled tree is wrong behind these
abbrev pub IsTreeFault : List Point → List Tree → ℕ → Tree → FstFault → Type 0
IsTreeFault ps ts n t f =
    (¬ IsInForm ps t.code × (f ≡ NotInForm n))
    ⊎ (IsInForm ps t.code × (t.length ≢ code_length ps t.code)
    × (f ≡ WrongLength n t.length (code_length ps t.code)))
    ⊎ (IsTreeOf ps t × ¬ Follows ts t × (f ≡ OutOfOrder n))
