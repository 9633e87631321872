-- When an input or a file is taken whole.
use Rattle.std.specs.Prelude.{ℕ, ◌≡◌, List, length, Some}
use Rattle.std.proofs.Common.{arith, ap, sym, subst, ◌∙◌, length-append}
use Rattle.rst_outside.specs.Source.{SourceState}
use Rattle.rst_outside.specs.SourceLaws.{all_of_the_rest}
use Rattle.rst_outside.specs.Shelf.{ShelfState}
use Rattle.points_in.specs.declared.point.Point.{Point}
use Rattle.points_in.specs.declared.fault.PointFault.TheVariants as point_fault
use Rattle.points_in.specs.FaultLaws.{one_list, listed_no_fault}
use Rattle.net_graph.specs.Graph.{total_of}
use Rattle.tool_frame.specs.declared.take.InputFault.{InputFault}
use Rattle.tool_frame.specs.declared.take.InputFault.TheVariants as input_fault
use Rattle.tool_frame.specs.declared.take.FileFault.{FileFault}
use Rattle.tool_frame.specs.declared.take.FileFault.TheVariants as file_fault
use Rattle.tool_frame.specs.declared.points.ListFault.{ListFault}
use Rattle.tool_frame.specs.declared.points.ListFault.TheVariants as list_fault
use Rattle.tool_frame.specs.declared.points.PointsFault.{PointsFault}
use Rattle.tool_frame.specs.declared.points.PointsFault.TheVariants as points_fault
use Rattle.tool_frame.specs.Taking.{IsWholeInput, IsInputFault, IsWholeFile, IsFileFault}
use Rattle.tool_frame.specs.Complete.{HasInput, HasFile}
use Rattle.tool_frame.specs.Points.{ListsPoints, IsListFault, IsPointsFault, grid_of_points}

-- Such an input is taken whole, and has those bytes.
pub input_is_taken : (limit : ℕ) (before after : SourceState) (bytes : List ℕ) (fault : InputFault) →
    HasInput limit before after bytes → IsInputFault limit before after fault → ⊥
input_is_taken limit before after bytes input_fault.Unread has fault = has.reads fault
input_is_taken limit before after bytes (input_fault.TooLong most) has (same, more, above, came) =
    let (left, now, parts) = rw has.told at came in
    let within = has.within in
    let long = ap length parts in
    absurd (omega (arith, within, above, simp length-append at long))

pub whole_input_is : (limit : ℕ) (before after : SourceState) (bytes taken : List ℕ) →
    HasInput limit before after bytes → IsWholeInput limit before after taken → taken ≡ bytes
whole_input_is limit before after bytes taken has whole =
    let came = rw has.told at whole.came in all_of_the_rest bytes taken after.rest came

-- Such a file is taken whole, and has those bytes.
pub file_is_taken : (limit : ℕ) (before after : ShelfState) (name bytes : List ℕ) (fault : FileFault) →
    HasFile limit before after name bytes → IsFileFault limit before after name fault → ⊥
file_is_taken limit before after name bytes file_fault.Unread has fault = has.reads fault
file_is_taken limit before after name bytes (file_fault.TooLong most) has (same, of_file) =
    let (file, is, above) = rw has.told at of_file in
    let one : Some file ≡ Some bytes = sym is ∙ has.named in
    let within = has.within in
    let equal : file ≡ bytes = cc in
    let long = ap length equal in
    absurd (omega (arith, within, above, long))

pub whole_file_is : (limit : ℕ) (before after : ShelfState) (name bytes taken : List ℕ) →
    HasFile limit before after name bytes → IsWholeFile limit before name taken → taken ≡ bytes
whole_file_is limit before after name bytes taken has whole =
    let (file, is, same) = rw has.told at whole.told in
    let one : Some file ≡ Some bytes = sym is ∙ has.named in
    cc

-- A list of points whose grid isn't too long has no fault.
pub lists_points_faultless : (bytes : List ℕ) (ps : List Point) (fault : ListFault) → ListsPoints bytes ps →
    IsListFault bytes fault → ⊥
lists_points_faultless bytes ps (list_fault.BadNumber at) lists is =
    listed_no_fault bytes ps (point_fault.BadNumber at) lists.text is
lists_points_faultless bytes ps (list_fault.NumberTooLarge at) lists is =
    listed_no_fault bytes ps (point_fault.NumberTooLarge at) lists.text is
lists_points_faultless bytes ps (list_fault.TooManyPoints at) lists is =
    listed_no_fault bytes ps (point_fault.TooManyPoints at) lists.text is
lists_points_faultless bytes ps list_fault.OddCount lists is =
    listed_no_fault bytes ps point_fault.OddCount lists.text is
lists_points_faultless bytes ps list_fault.NoPoints lists is =
    listed_no_fault bytes ps point_fault.NoPoints lists.text is
lists_points_faultless bytes ps (list_fault.GridTooLong total) lists (qs, text, is, long) =
    let one : qs ≡ ps = one_list bytes qs ps text lists.text in
    let totals : total_of (grid_of_points qs) ≡ total_of (grid_of_points ps) =
    ap (λ q. total_of (grid_of_points q)) one in
    let short = lists.short in
    absurd (omega (arith, short, totals, is, long))

-- Nor has a file of one.
pub file_faultless : (limit : ℕ) (before after : ShelfState) (name bytes : List ℕ) (ps : List Point)
    (fault : PointsFault) → HasFile limit before after name bytes → ListsPoints bytes ps →
    IsPointsFault limit before after name fault → ⊥
file_faultless limit before after name bytes ps (points_fault.File fault) has lists is =
    file_is_taken limit before after name bytes fault has is
file_faultless limit before after name bytes ps (points_fault.List fault) has lists (taken, whole, is) =
    lists_points_faultless bytes ps fault lists
    (subst (λ b. IsListFault b fault) (whole_file_is limit before after name bytes taken has whole) is)
