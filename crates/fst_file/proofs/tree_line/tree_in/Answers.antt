-- The length and the code make the tree.
use Rattle.std.proofs.Common.{refl}
use Rattle.full_tree.specs.declared.code.Tree.{Tree}
use Rattle.fst_file.proofs.tree_line.tree_in.Goals as goal

pub returns-clause-found : goal.returns-clause-found
returns-clause-found c =
    let read = c.in_ok-code.ensures.found in
    let t : Tree = record { length = c.in_ok-length.length; code = read.0 } in (
      t,
      record {
        fits = record { length_fits = c.in_ok-length.ensures.fits; places_fit = read.1 };
        words_are = cc (c.in_ok-length.ensures.found, read.2);
      },
      refl,
      read.3,
    )
