-- In each arm the text of the fault is the one that was written.
use Rattle.stp_format.proofs.fault.StpFaultFormatFault.write.Goals as goal

pub returns-in-NoMagic : goal.returns-in-NoMagic
returns-in-NoMagic g c = rw c.in-NoMagic.is c.literal.ensures

pub returns-in-LeftOut : goal.returns-in-LeftOut
returns-in-LeftOut g c = rw c.in-LeftOut.is c.write_line-in-LeftOut.ensures

pub returns-in-MissingSection : goal.returns-in-MissingSection
returns-in-MissingSection g c = rw c.in-MissingSection.is c.write_section-in-MissingSection.ensures

pub returns-in-NoTerminals : goal.returns-in-NoTerminals
returns-in-NoTerminals g c = rw c.in-NoTerminals.is c.literal-in-NoTerminals.ensures

pub returns-in-TooManyPoints : goal.returns-in-TooManyPoints
returns-in-TooManyPoints g c = rw c.in-TooManyPoints.is c.write_number-in-TooManyPoints.ensures

pub returns-in-Memory : goal.returns-in-Memory
returns-in-Memory g c = rw c.in-Memory.is c.literal-in-Memory.ensures
