use Rattle.spanning.specs.BottleneckLaws.{IsBottleneck-one, IsBottleneck-same, IsBottleneck-back, IsBottleneck-direct, IsBottleneck-between}
use Rattle.spanning.proofs.laws.bottlenecks_are_distances.Goals as goal

pub returns : goal.returns
returns c = record {
  one = IsBottleneck-one;
  same = IsBottleneck-same;
  back = IsBottleneck-back;
  direct = IsBottleneck-direct;
  between = IsBottleneck-between;
}
