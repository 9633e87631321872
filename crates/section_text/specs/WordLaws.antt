-- Words that are written out.
use Rattle.std.specs.Prelude.{ℕ, ◌≢◌, ◌<◌, List, [], ◌∷◌, length}
use Rattle.std.specs.List.{AllByRecursion}
use Rattle.std.proofs.Common.{arith}
use Rattle.std.proofs.lemmas.List.Elements.{All-nil, All-cons}
use Rattle.text_in.specs.Words.{IsWord, Lacks}

-- bytes above the blank are a word
lacks_low : (word : List ℕ) (low : ℕ) → low < 33 → AllByRecursion (λ b. 32 < b) word → Lacks word low
lacks_low [] low is all = All-nil (λ b. b ≢ low)
lacks_low (b ∷ word) low is all =
    let here = all.0 in All-cons (λ b. b ≢ low) b word (omega arith) (lacks_low word low is all.1)

pub plain : (word : List ℕ) → 0 < length word → AllByRecursion (λ b. 32 < b) word → IsWord word
plain word some all = record {
  some = some;
  no_blank = lacks_low word 32 (omega arith) all;
  no_line_feed = lacks_low word 10 (omega arith) all;
}
