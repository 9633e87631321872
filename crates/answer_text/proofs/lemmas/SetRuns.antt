-- Runs of a set's digits.
use Rattle.std.proofs.Common.{ℕ, ◌≡◌, ◌≢◌, ◌+◌, ◌<◌, ◌≤◌, List, [], ◌∷◌, ◌++◌, false, sym, subst, ◌∙◌, arith, append_assoc}
use Rattle.std.specs.Fmt.{digit_glyph}
use Rattle.std.proofs.lemmas.Bool.Decides.{nat_tests}
use Rattle.std.proofs.lemmas.List.Elements.{All-push}
use Rattle.answer_text.specs.declared.scan.Kept.{Kept}
use Rattle.answer_text.specs.declared.scan.Scan.{Scan}
use Rattle.answer_text.specs.declared.scan.Scan.TheVariants as scan
use Rattle.answer_text.specs.Spelling.{FitsName}
use Rattle.answer_text.specs.Scanning.{Left, IsRun}
use Rattle.answer_text.proofs.lemmas.ScanSets.{TakesDigit, leads-set, set-sound}

-- no digit ends a line
glyph_apart : (value byte : ℕ) → value < 16 → byte ≡ digit_glyph false value → byte ≢ 10
glyph_apart value byte few is e = let high : 48 ≤ digit_glyph false value = grind (arith, nat_tests) in omega arith

-- one digit more
pub run_more : (k k' k'' : Kept) (s : Scan) (bytes : List ℕ) (place next value byte : ℕ)
    → IsRun k s bytes k' (scan.Set place) → TakesDigit k' k'' place value byte → next ≡ place + 1
    → k''.name ≡ k'.name → k''.stage ≡ k'.stage → k''.version ≡ k'.version
    → IsRun k s (bytes ++ byte ∷ []) k'' (scan.Set next)
run_more k k' k'' s bytes place next value byte run takes is name stage version =
    let leads = leads-set k' k'' place value byte takes in
    let one = λ (rest : List ℕ). append_assoc bytes (byte ∷ []) rest in
    subst (λ n. IsRun k s (bytes ++ byte ∷ []) k'' (scan.Set n)) (sym is) (record {
      leads = record {
        on = λ rest l h. leads.on rest l (run.leads.on (byte ∷ rest) l (subst (λ xs. Left k s xs l) (one rest) h));
        back = λ rest l h. subst (λ xs. Left k s xs l) (sym (one rest)) (run.leads.back (byte ∷ rest) l (leads.back rest l h));
      };
      within = All-push (λ b. b ≢ 10) bytes byte run.within (glyph_apart value byte takes.few takes.digit);
      sound = set-sound k' k'' place value byte takes run.sound;
      name = subst FitsName (sym name) run.name;
      stage = stage ∙ run.stage;
      version = version ∙ run.version;
      size = takes.size ∙ run.size;
    })
