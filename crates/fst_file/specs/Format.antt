-- A file between the phases as a text of sections.
use Rattle.std.specs.Prelude.{◌<◌, ◌^◌, codes}
use Rattle.std.specs.List.{AllByRecursion}
use Rattle.full_tree.specs.declared.code.Tree.{Tree}
use Rattle.full_tree.specs.Order.{IsInFileOrder}
use Rattle.section_text.specs.Format.{Format}
use Rattle.fst_file.specs.declared.fault.FstFault.{FstFault}
use Rattle.fst_file.specs.Value.{FstValue, IsTreeOf, grid_total}
use Rattle.fst_file.specs.Words.{title_words, tree_words, IsSpelled}
use Rattle.fst_file.specs.Faults.{fst_fault_of, IsTooLong, Follows, IsTreeFault}
use Rattle.fst_file.specs.Said.{IsMemory}

-- Its items are trees in file order. The grid of the points is judged with the last point, the whole not at all.
abbrev pub fst_format : Format Tree FstFault FstValue
fst_format = record {
  title = title_words;
  kind = codes "trees";
  most = 20000;
  item_words = tree_words;
  IsSpelled = IsSpelled;
  fault_of = fst_fault_of;
  IsMemory = IsMemory;
  PointsFit = λ ps. grid_total ps < 2 ^ 63;
  IsPointsFault = IsTooLong;
  Follows = λ ps ts t. IsTreeOf ps t × Follows ts t;
  IsItemFault = IsTreeFault;
  AreItems = λ ps ts. AllByRecursion (IsTreeOf ps) ts × IsInFileOrder ts;
  value_of = λ ps ts. record { points = ps; trees = ts };
  IsWhole = λ ps ts. Unit {0};
  IsWholeFault = λ ps ts f. ⊥;
}
