-- Points and boxes as a text of sections.
use Rattle.std.specs.Prelude.{◌≤◌, codes}
use Rattle.section_text.specs.Format.{Format}
use Rattle.obstacles_in.specs.declared.rectangle.Rectangle.{Rectangle}
use Rattle.obstacles_in.specs.declared.fault.ObstacleFault.{ObstacleFault}
use Rattle.obstacles_in.specs.Obstacles.{ObstaclesValue, IsBox, crossing_count}
use Rattle.obstacles_in.specs.Words.{title_words, box_words}
use Rattle.obstacles_in.specs.Faults.{obstacle_fault_of, HasCoordinates, IsClear, AreBoxesAround, IsBoxFault}
use Rattle.obstacles_in.specs.Faults.{value_of, IsTooLarge}
use Rattle.obstacles_in.specs.Said.{IsMemory}

-- Its items are boxes, each for itself. The points are not judged together; the whole is, by its size.
abbrev pub obstacles_format : Format Rectangle ObstacleFault ObstaclesValue
obstacles_format = record {
  title = title_words;
  kind = codes "boxes";
  most = 25;
  item_words = box_words;
  IsSpelled = HasCoordinates;
  fault_of = obstacle_fault_of;
  IsMemory = IsMemory;
  PointsFit = λ ps. Unit {0};
  IsPointsFault = λ ps f. ⊥;
  Follows = λ ps bs b. IsBox b × IsClear ps b;
  IsItemFault = λ ps bs n b f. IsBoxFault ps n b f;
  AreItems = AreBoxesAround;
  value_of = value_of;
  IsWhole = λ ps bs. crossing_count (value_of ps bs) ≤ 2500;
  IsWholeFault = IsTooLarge;
}
