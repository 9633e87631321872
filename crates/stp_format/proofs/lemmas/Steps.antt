-- What is due by another name, and what goes on from a fault.
use Rattle.std.specs.Prelude.{◌≡◌, Result}
use Rattle.std.proofs.Common.{sym, ap, subst}
use Rattle.stp_format.specs.declared.fault.StpFault.{StpFault}
use Rattle.stp_format.specs.declared.fault.StpFault.TheVariants.{NoMagic, BadLine, LeftOut, NodeOutOfRange, WrongCount, MissingSection, NoTerminals, NoCoordinates, TooManyPoints, Memory}
use Rattle.stp_format.specs.Sections.{◌>>=◌}
use Rattle.stp_format.specs.Reading.{IsFaultOf, Tells}

-- a fault stays the fault of what goes on from there
pub fault_bind : {X Y : Type 0} (f : StpFault) (due : Result X StpFault) (next : X → Result Y StpFault) → IsFaultOf f due → IsFaultOf f (due >>= next)
fault_bind NoMagic due next e = ap (λ r. r >>= next) e
fault_bind (BadLine n) due next e = ap (λ r. r >>= next) e
fault_bind (LeftOut n) due next e = ap (λ r. r >>= next) e
fault_bind (NodeOutOfRange n) due next e = ap (λ r. r >>= next) e
fault_bind (WrongCount s) due next e = ap (λ r. r >>= next) e
fault_bind (MissingSection s) due next e = ap (λ r. r >>= next) e
fault_bind NoTerminals due next e = ap (λ r. r >>= next) e
fault_bind (NoCoordinates n) due next e = ap (λ r. r >>= next) e
fault_bind (TooManyPoints n) due next e = ap (λ r. r >>= next) e
fault_bind (Memory e) due next h = tt

-- what is due may be written otherwise
pub tells_along : {X Y : Type 0} (next : X → Result Y StpFault) (result : Result X StpFault) (due due' : Result Y StpFault) → due' ≡ due
    → Tells next result due → Tells next result due'
tells_along next result due due' same h = subst (λ d. Tells next result d) (sym same) h
