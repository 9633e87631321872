use Rattle.std.proofs.Common.{ℕ, ◌≡◌, ◌<◌, length, vec_capacity, vec_len}
use Rattle.tree_judge.specs.ArcLoads.{IsListed, both_loads}
use Rattle.tree_judge.proofs.loads.Loads.clear.Given as goal

-- each edge that is still loaded is still listed
abbrev pub invariant-loop-n : goal.invariant-loop-n
invariant-loop-n l = record {
  there : length l.self-inside.there ≡ length l.fn.self.there;
  back : length l.self-inside.back ≡ length l.fn.self.there;
  room : vec_capacity l.self-inside.listed ≡ length l.fn.self.there;
  within : (n : ℕ) → IsListed l.self-inside.listed.items n → n < length l.fn.self.there;
  listed : (n : ℕ) → 0 < both_loads l.self-inside.there l.self-inside.back n → IsListed l.self-inside.listed.items n;
}

abbrev pub decreases-loop-n : goal.decreases-loop-n
decreases-loop-n l = vec_len l.self-inside.listed
