-- What a reader of STP files answers is what the bytes give, but for want of memory.
use Rattle.std.proofs.Common.{ℕ, ◌≡◌, List, Result, Ok, Err, IfErr, sym, subst}
use Rattle.points_in.specs.declared.point.Point.{Point}
use Rattle.stp_format.specs.declared.fault.StpFault.{StpFault}
use Rattle.stp_format.specs.declared.fault.StpFault.TheVariants.{Memory}
use Rattle.stp_format.specs.Reading.{IsFaultOf, Gives}
use Rattle.stp_format.specs.Said.{IsMemory}
use Rattle.tool_frame.specs.declared.stop.Stop.{Stop}
use Rattle.tool_frame.specs.declared.stop.Stop.TheVariants.{Fault, Memory as Stopped}
use Rattle.tool_frame.specs.Stops.{IfFound}
use Rattle.point_tools.specs.StpPoints.{stp_points_of, LocatesPoints}

-- a fault of what is due is due, but for want of memory
fault_due : (due : Result (List Point) StpFault) (fault : StpFault) → IsFaultOf fault due → (IsMemory fault → ⊥) → due ≡ Err fault
fault_due due (Memory error) is other = absurd (other tt)
fault_due due fault is other = is

-- an answer of the reader that is no want of memory
pub located_apart : (bytes : List ℕ) (read : Result (List Point) StpFault) (found : Result (List Point) (Stop StpFault)) →
    Gives (λ points. points) read (stp_points_of bytes) → IfFound found (λ r. r ≡ read) →
    IfFound found (λ r. IfErr r (λ fault. IsMemory fault → ⊥)) → IfFound found (LocatesPoints bytes)
located_apart bytes read (Ok points) gives same told =
    subst (λ r. Gives (λ points. points) r (stp_points_of bytes)) (sym same) gives
located_apart bytes read (Err (Fault fault)) gives same told = (
  fault_due (stp_points_of bytes) fault (subst (λ r. Gives (λ points. points) r (stp_points_of bytes)) (sym same) gives) told,
  told,
)
located_apart bytes read (Err (Stopped error)) gives same told = tt
