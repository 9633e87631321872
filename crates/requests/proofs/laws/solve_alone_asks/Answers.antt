-- The words are read by computing.
use Rattle.std.proofs.Common.{refl}
use Rattle.clap.proofs.OnLiterals.{clap_on_literals}
use Rattle.requests.specs.Requests.{request_of}
use Rattle.requests.proofs.laws.solve_alone_asks.Goals as goal

pub returns : goal.returns
unfolding request_of clap_on_literals
returns c = refl
