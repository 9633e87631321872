-- Lines that each pass, one after another, and the verdict that accepts behind them.
use Rattle.std.proofs.Common.{ℕ, suc, ◌≡◌, Bool, List, [], ◌∷◌, ◌++◌, inl, inr, refl, subst, arith}
use Rattle.answer_text.specs.Events.{Told}
use Rattle.cert_check.specs.Named.{Named}
use Rattle.cert_check.proofs.lemmas.ToldParts.{numbered}
use Rattle.tree_judge.specs.declared.cause.Cause.{Cause}
use Rattle.tree_judge.specs.declared.cause.Cause.TheVariants.{NotAnswer}
use Rattle.cert_check.specs.declared.verdict.Verdict.TheVariants.{Accepted, Refused}
use Rattle.cert_check.specs.declared.verdict.Finished.{Finished}
use Rattle.cert_check.specs.Ends.{EndsWith}
use Rattle.cert_check.specs.Lines.{Behind}
use Rattle.cert_check.specs.Lines.Behind.{Ended, Ceased, Further}
use Rattle.tree_judge.specs.Judged.{SoFar, bound_found}
use Rattle.cert_check.specs.Judged.{Passes, Judges}
use Rattle.answer_text.specs.declared.event.AnswerEvent.{AnswerEvent}

-- each of these lines passes behind what was told, and this is told behind the last of them
abbrev pub Runs : Named → SoFar → List Told → SoFar → Type 0
Runs N s [] s' = s' ≡ s
Runs N s (t ∷ ts) s' = (m : SoFar) × Passes N s t.0 t.1 m × Runs N m ts s'

-- two runs of lines, one after the other
pub Runs-append : (N : Named) (s s' : SoFar) (xs ys : List Told) → Runs N s (xs ++ ys) s' → (m : SoFar) × Runs N s xs m × Runs N m ys s'
Runs-append N s s' [] ys runs = (s, refl, runs)
Runs-append N s s' (x ∷ xs) ys (m, passes, runs) = grind (arith, Runs-append N m s' xs ys runs)

-- .. make one
pub Runs-join : (N : Named) (s m s' : SoFar) (xs ys : List Told) → Runs N s xs m → Runs N m ys s' → Runs N s (xs ++ ys) s'
Runs-join N s m s' [] ys first second = subst (λ x. Runs N x ys s') first second
Runs-join N s m s' (x ∷ xs) ys (n, passes, runs) second = (n, passes, Runs-join N n m s' xs ys runs second)

-- an accepting verdict is that behind the last of lines which all pass
pub record AcceptsBehind (N : Named) (s : SoFar) (ts : List Told) (length bound : ℕ) (optimal : Bool) (network : List Bool) : Type 0 where
  pub last : SoFar
  pub runs : Runs N s ts last
  pub ends : EndsWith last.claim (bound_found last) (Accepted length bound optimal)
  pub network_is : network ≡ last.network

-- no verdict both accepts and refuses
accepts_not : {P : Type 0} (f : Finished) (length bound : ℕ) (optimal : Bool) (cause : Cause) → f.verdict ≡ Accepted length bound optimal → f.verdict ≡ Refused cause → P
accepts_not f length bound optimal cause is is_not = absurd cc

-- where the lines were read whole, a verdict that accepts is that behind them all
pub AcceptsBehind-judged : (N : Named) (s : SoFar) (n : ℕ) (ts : List Told) (f : Finished) (length bound : ℕ) (optimal : Bool) → Judges N s (numbered n ts) Ended f → f.verdict ≡ Accepted length bound optimal → AcceptsBehind N s ts length bound optimal f.network
AcceptsBehind-judged N s n [] f length bound optimal judged is = grind arith
AcceptsBehind-judged N s n (t ∷ ts) f length bound optimal (inl (cause, fails, refused)) is = accepts_not f length bound optimal cause is refused
AcceptsBehind-judged N s n (t ∷ ts) f length bound optimal (inr (m, passes, judged)) is =
    grind (arith, AcceptsBehind-judged N m (suc n) ts f length bound optimal judged is)

-- a verdict that accepts is on lines that were read whole
pub whole_where_accepted : (N : Named) (s : SoFar) (es : List AnswerEvent) (behind : Behind) (f : Finished) (length bound : ℕ) (optimal : Bool) → Judges N s es behind f → f.verdict ≡ Accepted length bound optimal → behind ≡ Ended
whole_where_accepted N s [] Ended f length bound optimal judged is = refl
whole_where_accepted N s [] (Ceased n) f length bound optimal judged is = accepts_not f length bound optimal (NotAnswer n) is judged.0
whole_where_accepted N s [] Further f length bound optimal judged is = absurd judged
whole_where_accepted N s (e ∷ es) behind f length bound optimal (inl (cause, fails, refused)) is = accepts_not f length bound optimal cause is refused
whole_where_accepted N s (e ∷ es) behind f length bound optimal (inr (m, passes, judged)) is = whole_where_accepted N m es behind f length bound optimal judged is
