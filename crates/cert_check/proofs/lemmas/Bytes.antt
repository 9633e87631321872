-- What a judge and a reader make of one more byte.
use Rattle.std.proofs.Common.{ℕ, ◌≡◌, ◌+◌, ◌-◌, ◌^◌, ◌<◌, ◌≤◌, ◌⊎◌, min, Bool, List, [], ◌∷◌, ◌++◌, length, length-append, take, refl, sym, ◌∙◌, subst, inl, inr, arith, append_assoc}
use Rattle.std.specs.Prelude.{Option, Some, None, IsSome, IfNone, IfSome, ◌↔◌}
use Rattle.std.proofs.lemmas.Bool.{cases_lt}
use Rattle.std.proofs.Math.Seq.{take-append-add}
use Rattle.std.proofs.lemmas.List.{append-nil, take_all, take-append-le}
use Rattle.answer_text.specs.declared.event.Event.{Event}
use Rattle.answer_text.specs.declared.event.Event.TheVariants as event
use Rattle.answer_text.specs.declared.event.AnswerEvent.{AnswerEvent}
use Rattle.answer_text.specs.declared.reader.EventReader.{EventReader}
use Rattle.answer_text.specs.Given.{given}
use Rattle.answer_text.specs.Reading.{IsReadWhole, StopsAt}
use Rattle.answer_text.specs.Reader.{BeginsWith, CeasesAt, Reads}
use Rattle.tree_judge.specs.declared.cause.Cause.{Cause}
use Rattle.tree_judge.specs.declared.cause.Cause.TheVariants.{NotAnswer}
use Rattle.cert_check.specs.Named.{Named}
use Rattle.cert_check.specs.declared.verdict.Verdict.TheVariants.{Refused, TooLong}
use Rattle.cert_check.specs.declared.verdict.Finished.{Finished}
use Rattle.tree_judge.specs.declared.judge.Judge.{Judge}
use Rattle.cert_check.specs.Ends.{EndsWith}
use Rattle.cert_check.specs.Lines.{Behind}
use Rattle.cert_check.specs.Lines.Behind.{Ended, Ceased, Further}
use Rattle.tree_judge.specs.Judged.{SoFar, bound_found, nothing_told}
use Rattle.cert_check.specs.Judged.{Passes, Fails, Judges}
use Rattle.cert_check.specs.Verdicts.{IsJudged, IsVerdictIn, byte_limit}
use Rattle.tree_judge.specs.Standing.{StandsFor, network_of}
use Rattle.cert_check.specs.Underway.{Follows, PassAll}

-- ---- lines

-- one more line that passes
PassAll-more : (N : Named) (s m s' : SoFar) (es : List AnswerEvent) (e : AnswerEvent) → PassAll N s es m → Passes N m e.event e.members s' → PassAll N s (es ++ e ∷ []) s'
PassAll-more N s m s' [] e is passes = (s', subst (λ x. Passes N x e.event e.members s') is passes, refl)
PassAll-more N s m s' (x ∷ es) e (n, first, rest) passes = (n, first, PassAll-more N n m s' es e rest passes)

-- behind lines that pass the verdict is that on what follows
Judges-behind : (N : Named) (s m : SoFar) (es more : List AnswerEvent) (behind : Behind) (f : Finished) → PassAll N s es m → Judges N m more behind f → Judges N s (es ++ more) behind f
Judges-behind N s m [] more behind f is judged = subst (λ x. Judges N x more behind f) is judged
Judges-behind N s m (x ∷ es) more behind f (n, first, rest) judged = inr (n, first, Judges-behind N n m es more behind f rest judged)

Judges-last : (N : Named) (s m : SoFar) (es : List AnswerEvent) (behind : Behind) (f : Finished) → PassAll N s es m → Judges N m [] behind f → Judges N s es behind f
Judges-last N s m es behind f passes judged = subst (λ xs. Judges N s xs behind f) (append-nil es) (Judges-behind N s m es [] behind f passes judged)

-- the line of an event passes
PassAll-given : (N : Named) (s m s' : SoFar) (es : List AnswerEvent) (n : ℕ) (e : Event) (members : List Bool) → PassAll N s es m → Passes N m e (Some members) s' →
    PassAll N s (es ++ given n (Some e) members) s'
PassAll-given N s m s' es n (event.Head h) members before passes = PassAll-more N s m s' es (record { line = n; event = event.Head h; members = None }) before passes
PassAll-given N s m s' es n (event.EdgeCount count) members before passes = PassAll-more N s m s' es (record { line = n; event = event.EdgeCount count; members = None }) before passes
PassAll-given N s m s' es n (event.Edge name) members before passes = PassAll-more N s m s' es (record { line = n; event = event.Edge name; members = None }) before passes
PassAll-given N s m s' es n event.Tree members before passes = PassAll-more N s m s' es (record { line = n; event = event.Tree; members = None }) before passes
PassAll-given N s m s' es n (event.Split name) members before passes = PassAll-more N s m s' es (record { line = n; event = event.Split name; members = None }) before passes
PassAll-given N s m s' es n (event.Leaf count) members before passes = PassAll-more N s m s' es (record { line = n; event = event.Leaf count; members = None }) before passes
PassAll-given N s m s' es n (event.Cut weight) members before passes = PassAll-more N s m s' es (record { line = n; event = event.Cut weight; members = Some members }) before passes
PassAll-given N s m s' es n event.End members before passes = PassAll-more N s m s' es (record { line = n; event = event.End; members = None }) before passes

-- or is wrong
wrong_given : (N : Named) (m : SoFar) (n : ℕ) (e : Event) (members : List Bool) (cause : Cause) (f : Finished) → Fails N m n e (Some members) cause f.network → f.verdict ≡ Refused cause →
    Judges N m (given n (Some e) members) Further f
wrong_given N m n (event.Head h) members cause f fails is = inl (cause, fails, is)
wrong_given N m n (event.EdgeCount count) members cause f fails is = inl (cause, fails, is)
wrong_given N m n (event.Edge name) members cause f fails is = inl (cause, fails, is)
wrong_given N m n event.Tree members cause f fails is = inl (cause, fails, is)
wrong_given N m n (event.Split name) members cause f fails is = inl (cause, fails, is)
wrong_given N m n (event.Leaf count) members cause f fails is = inl (cause, fails, is)
wrong_given N m n (event.Cut weight) members cause f fails is = inl (cause, fails, is)
wrong_given N m n event.End members cause f fails is = inl (cause, fails, is)

-- ---- one more byte

-- the text ceases to begin an answer's
pub follows_spelling : (N : Named) (bytes : List ℕ) (byte n : ℕ) (events : List AnswerEvent) (s : SoFar) (reader : EventReader) (judge : Judge) →
    PassAll N (nothing_told N.graph) events s → StandsFor N.graph s judge → CeasesAt N.form bytes byte n events → Follows N (bytes ++ byte ∷ []) reader judge (Some (NotAnswer n))
follows_spelling N bytes byte n events s reader judge passes stands ceases rest =
    grind (arith, append_assoc bytes (byte ∷ []) rest, ceases.stops rest, Judges-last N (nothing_told N.graph) s events (Ceased n) (record { verdict = Refused (NotAnswer n); network = network_of judge }) passes (refl, stands.network))

-- the byte ends no line that tells anything
pub follows_quiet : (N : Named) (bytes : List ℕ) (byte n : ℕ) (members : List Bool) (events : List AnswerEvent) (s : SoFar) (reader : EventReader) (judge : Judge) →
    PassAll N (nothing_told N.graph) events s → StandsFor N.graph s judge → Reads N.form (bytes ++ byte ∷ []) (events ++ given n None members) reader →
    Follows N (bytes ++ byte ∷ []) reader judge None
follows_quiet N bytes byte n members events s reader judge passes stands reads =
    (events, s, subst (λ xs. Reads N.form (bytes ++ byte ∷ []) xs reader) (append-nil events) reads, passes, stands)

-- it ends a line that passes
pub follows_passed : (N : Named) (bytes : List ℕ) (byte n : ℕ) (e : Event) (members : List Bool) (events : List AnswerEvent) (s s' : SoFar) (reader : EventReader) (judge : Judge) →
    PassAll N (nothing_told N.graph) events s → Passes N s e (Some members) s' → StandsFor N.graph s' judge →
    Reads N.form (bytes ++ byte ∷ []) (events ++ given n (Some e) members) reader → Follows N (bytes ++ byte ∷ []) reader judge None
follows_passed N bytes byte n e members events s s' reader judge before passes stands reads =
    (events ++ given n (Some e) members, s', reads, PassAll-given N (nothing_told N.graph) s s' events n e members before passes, stands)

-- it ends a line that is wrong
pub follows_failed : (N : Named) (bytes : List ℕ) (byte n : ℕ) (e : Event) (members : List Bool) (events : List AnswerEvent) (s : SoFar) (reader : EventReader) (judge : Judge) (cause : Cause) →
    PassAll N (nothing_told N.graph) events s → Fails N s n e (Some members) cause (network_of judge) →
    BeginsWith N.form (bytes ++ byte ∷ []) (events ++ given n (Some e) members) → Follows N (bytes ++ byte ∷ []) reader judge (Some cause)
follows_failed N bytes byte n e members events s reader judge cause before fails begins rest =
    let f : Finished = record { verdict = Refused cause; network = network_of judge } in
    record {
      events = events ++ given n (Some e) members;
      behind = Further;
      read = record { front = bytes ++ byte ∷ []; back = rest; parts = refl; begins = begins };
      judged = Judges-behind N (nothing_told N.graph) s events (given n (Some e) members) Further f before (wrong_given N s n e members cause f fails refl);
    }

-- it ends a line, which the judge judged
pub follows_judged : (N : Named) (bytes : List ℕ) (byte n : ℕ) (e : Event) (members : List Bool) (events : List AnswerEvent) (s : SoFar) (reader : EventReader) (old new : Judge) (result : Option Cause) →
    PassAll N (nothing_told N.graph) events s → StandsFor N.graph s old → Reads N.form (bytes ++ byte ∷ []) (events ++ given n (Some e) members) reader →
    BeginsWith N.form (bytes ++ byte ∷ []) (events ++ given n (Some e) members) →
    IfNone result ((s : SoFar) → StandsFor N.graph s old → (s' : SoFar) × Passes N s e (Some members) s' × StandsFor N.graph s' new) →
    IfSome result (λ cause. (s : SoFar) → StandsFor N.graph s old → Fails N s n e (Some members) cause (network_of new)) → Follows N (bytes ++ byte ∷ []) reader new result
follows_judged N bytes byte n e members events s reader old new None before stands reads begins passes fails =
    let (s', passed, behind) = passes s stands in
    follows_passed N bytes byte n e members events s s' reader new before passed behind reads
follows_judged N bytes byte n e members events s reader old new (Some cause) before stands reads begins passes fails =
    follows_failed N bytes byte n e members events s reader new cause before (fails s stands) begins

-- ---- no more bytes matter

-- behind a wrong line nothing else is said
follows_more : (N : Named) (bytes more : List ℕ) (reader : EventReader) (judge : Judge) (fault : Option Cause) → IsSome fault → Follows N bytes reader judge fault → Follows N (bytes ++ more) reader judge fault
follows_more N bytes more reader judge None some follows = absurd cc
follows_more N bytes more reader judge (Some cause) some follows =
    λ rest. subst (λ xs. IsJudged N xs (record { verdict = Refused cause; network = network_of judge })) (sym (append_assoc bytes more rest)) (follows (more ++ rest))

-- few bytes are all of them
all_of_few : (bytes : List ℕ) → length bytes ≤ byte_limit → take byte_limit bytes ≡ bytes
all_of_few bytes few = take_all byte_limit bytes few

-- a checker that is settled follows more bytes
pub follows_settled : (N : Named) (bytes more : List ℕ) (count : ℕ) (reader : EventReader) (judge : Judge) (fault : Option Cause) → count ≡ min (length bytes) (2 ^ 64 - 1) →
    IsSome fault ⊎ (byte_limit ≤ count) → Follows N (take byte_limit bytes) reader judge fault → Follows N (take byte_limit (bytes ++ more)) reader judge fault
follows_settled N bytes more count reader judge fault is settled follows = elim (cases_lt (length bytes) byte_limit) [
  | inl few ↦ elim settled [
    | inl some ↦
        let left = byte_limit - length bytes in
        let whole : length bytes + left ≡ byte_limit = omega arith in
        let parts : take byte_limit (bytes ++ more) ≡ bytes ++ take left more = subst (λ n. take n (bytes ++ more) ≡ bytes ++ take left more) whole (take-append-add bytes more left) in
        subst (λ xs. Follows N xs reader judge fault) (sym parts)
        (follows_more N bytes (take left more) reader judge fault some (subst (λ xs. Follows N xs reader judge fault) (all_of_few bytes (omega arith)) follows))
    | inr many ↦ absurd (omega (arith, is, many, few))
  ]
  | inr many ↦ subst (λ xs. Follows N xs reader judge fault) (sym (take-append-le byte_limit bytes more many)) follows
]

-- one that isn't follows those that its reader and its judge do
pub follows_read : (N : Named) (bytes more : List ℕ) (count : ℕ) (reader : EventReader) (judge : Judge) (fault : Option Cause) → count ≡ min (length bytes) (2 ^ 64 - 1) → count + length more ≤ byte_limit →
    Follows N (bytes ++ more) reader judge fault → Follows N (take byte_limit (bytes ++ more)) reader judge fault
follows_read N bytes more count reader judge fault is few follows = grind (arith, length-append bytes more, all_of_few)

pub follows_before : (N : Named) (bytes : List ℕ) (count : ℕ) (reader : EventReader) (judge : Judge) (fault : Option Cause) → count ≡ min (length bytes) (2 ^ 64 - 1) → count < byte_limit →
    Follows N (take byte_limit bytes) reader judge fault → Follows N bytes reader judge fault
follows_before N bytes count reader judge fault is few follows = grind (arith, all_of_few)

-- ---- the end

-- a wrong line is the verdict
pub judged_refused : (N : Named) (bytes : List ℕ) (reader : EventReader) (judge : Judge) (cause : Cause) (f : Finished) → Follows N bytes reader judge (Some cause) →
    f.verdict ≡ Refused cause → f.network ≡ network_of judge → IsJudged N bytes f
judged_refused N bytes reader judge cause f follows verdict network = grind (arith, append-nil bytes)

-- the text ends
pub judged_ended : (N : Named) (bytes : List ℕ) (reader : EventReader) (judge : Judge) (f : Finished) → Follows N bytes reader judge None →
    ((events : List AnswerEvent) → Reads N.form bytes events reader → IsReadWhole N.form bytes events) →
    ((s : SoFar) → StandsFor N.graph s judge → Judges N s [] Ended f) → IsJudged N bytes f
judged_ended N bytes reader judge f (events, s, reads, passes, stands) whole ends =
    grind (arith, whole events reads, Judges-last N (nothing_told N.graph) s events Ended f passes (ends s stands))

-- or ends too soon
pub judged_unended : (N : Named) (bytes : List ℕ) (reader : EventReader) (judge : Judge) (n : ℕ) (f : Finished) → Follows N bytes reader judge None →
    ((events : List AnswerEvent) → Reads N.form bytes events reader → StopsAt N.form bytes n events) →
    f.verdict ≡ Refused (NotAnswer n) → f.network ≡ network_of judge → IsJudged N bytes f
judged_unended N bytes reader judge n f (events, s, reads, passes, stands) stops verdict network =
    grind (arith, stops events reads, Judges-last N (nothing_told N.graph) s events (Ceased n) f passes (verdict, network ∙ stands.network))

-- the verdict on few enough bytes, and on too many
pub verdict_within : (N : Named) (bytes : List ℕ) (count : ℕ) (f : Finished) → count ≡ min (length bytes) (2 ^ 64 - 1) → count ≤ byte_limit → IsJudged N (take byte_limit bytes) f → IsVerdictIn N bytes f
verdict_within N bytes count f is few judged = grind (arith, all_of_few)

pub verdict_beyond : (N : Named) (bytes : List ℕ) (count : ℕ) (first f : Finished) → count ≡ min (length bytes) (2 ^ 64 - 1) → byte_limit < count → IsJudged N (take byte_limit bytes) first →
    f.verdict ≡ TooLong → f.network ≡ first.network → IsVerdictIn N bytes f
verdict_beyond N bytes count first f is many judged verdict network =
    inr (record { many = omega (arith, is, many); verdict = verdict; first = first; judged = judged; network = network })

-- the verdict on lines isn't that they are too many
judges_short : (N : Named) (s : SoFar) (es : List AnswerEvent) (behind : Behind) (f : Finished) → Judges N s es behind f → f.verdict ≡ TooLong → ⊥
judges_short N s [] Ended f judged is = subst (λ v. EndsWith s.claim (bound_found s) v) is judged.0
judges_short N s [] (Ceased n) f judged is = let no : Refused (NotAnswer n) ≡ TooLong = sym judged.0 ∙ is in cc
judges_short N s [] Further f judged is = judged
judges_short N s (e ∷ es) behind f (inl (cause, fails, refused)) is = let no : Refused cause ≡ TooLong = sym refused ∙ is in cc
judges_short N s (e ∷ es) behind f (inr (m, passes, judged)) is = judges_short N m es behind f judged is

-- so it says so exactly where they are
pub too_long_within : (N : Named) (bytes : List ℕ) (count : ℕ) (f : Finished) → count ≡ min (length bytes) (2 ^ 64 - 1) → count ≤ byte_limit → IsJudged N (take byte_limit bytes) f →
    (f.verdict ≡ TooLong) ↔ (byte_limit < length bytes)
too_long_within N bytes count f is few judged = grind (arith, judges_short)

pub too_long_beyond : (bytes : List ℕ) (count : ℕ) (f : Finished) → count ≡ min (length bytes) (2 ^ 64 - 1) → byte_limit < count → f.verdict ≡ TooLong →
    (f.verdict ≡ TooLong) ↔ (byte_limit < length bytes)
too_long_beyond bytes count f is many long = (λ _. omega (arith, is, many), λ _. long)
