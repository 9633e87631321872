use Rattle.std.proofs.Common.{codes, arith}
use Rattle.clap.specs.Words.{found_of, one_of, rows_of}
use Rattle.clap.proofs.WalkLemmas.{one_text-rows}
use Rattle.search_rules.specs.Names.{split_named}
use Rattle.requests.proofs.ValueLaws.{named_reads, reads}
use Rattle.requests.proofs.value.split.Goals as goal

pub returns : goal.returns
returns c =
    grind (arith, one_text-rows (found_of c.args.matches.now) (codes "split"), reads, split_named, one_of (codes "split") (rows_of (found_of c.args.matches.now)), named_reads, c.get_one.ensures.none, c.get_one.ensures.value)
