-- A value that `clap` took passed the parser of its argument, so a number is within the bounds of its argument.
use Rattle.std.proofs.Common.{◌≡◌, ◌∙◌, ◌<◌, ◌≤◌, ◌^◌, ℕ, Bool, true, false, zero, suc, List, [], ◌∷◌, length, map, Option, Some, None, refl, sym, ap, subst, inl, inr, arith, nat_lt, lt-ltb, ltb-true}
use Rattle.std.specs.Prelude.{⊤, codes, option_and_then, option_map, pos, slice_get, unwrap_or}
use Rattle.std.specs.List.{All, slice_index_or}
use Rattle.std.specs.Borrow.{Bor}
use Rattle.std.specs.Str.{bytes_eq}
use Rattle.std.specs.Str.Parse.{ParsesUnsigned, digits_value, without_leading_plus}
use Rattle.std.proofs.lemmas.Bool.{cases_lt}
use Rattle.std.proofs.lemmas.List.Elements.{All-get_or}
use Rattle.std.proofs.lemmas.Slice.Eq.{bytes_eq-Decides}
use Rattle.clap.specs.Words.{Accepts, Rule, Text, found_of, groups_of, matched_of, one_of, one_text, read_as, reading_of, rows_of, rule_of, shape_of, without_minus}
use Rattle.clap.specs.Facts.{Entry, EntryPasses, HasReading, PassesArg, args_of, parser_of, parser_of_value}
use Rattle.clap.specs.Matches.{ReadsOne}
use Rattle.clap.specs.Built.{IsParsedFrom, SameRules}
use Rattle.clap.specs.Simple.{has_plain_fields, has_simple_rules}
use Rattle.clap.proofs.CallerLemmas.{entry_by_id}
use Rattle.clap.proofs.CallerReads.{signed_reads}
use Rattle.clap.proofs.SimpleLemmas.{is_false, is_nil}
use Rattle.clap.proofs.TakesLemmas.{each_rule}
use Rattle.clap.proofs.WalkLemmas.{both, one_text-rows}
use Rattle.clap.specs.declared.builder.arg.Arg.{Arg}
use Rattle.clap.specs.declared.builder.command.Command.{Command}
use Rattle.clap.specs.declared.builder.command.Command.TheViews.{out-Command}
use Rattle.clap.specs.declared.builder.value_parser.Reading.{Reading}
use Rattle.clap.specs.declared.builder.value_parser.ValueParser.{ValueParser}
use Rattle.clap.specs.declared.builder.value_parser.ValueParser.TheVariants as parser
use Rattle.clap.specs.declared.parser.matches.ArgMatches.{ArgMatches}
use Rattle.clap.specs.declared.parser.matches.MatchedArg.{MatchedArg}
use Rattle.requests.specs.Values.{number_in, number_of}
use Rattle.requests.proofs.ValueLaws.{numeral_from, numeral_passes}

-- ---- the parser of an argument

-- each argument of this name has this parser
abbrev pub HasParser : Text → ValueParser → List Rule → Type 0
HasParser id q [] = ⊤
HasParser id q (r ∷ rs) = (bytes_eq r.id id ≡ true → r.parser ≡ Some q) × HasParser id q rs

parser_at : (id : Text) (q : ValueParser) (xs : List Arg) → HasParser id q (map rule_of xs) → (k : ℕ) (d : Arg) → k < length xs
    → bytes_eq (slice_index_or xs k d).id.now id ≡ true → (slice_index_or xs k d).value_parser ≡ Some q
parser_at id q [] h k d lt same = absurd (omega arith)
parser_at id q (x ∷ xs) h zero d lt same = h.0 same
parser_at id q (x ∷ xs) h (suc k) d lt same = parser_at id q xs h.1 k d (omega arith) same

-- a name that no argument has which building adds
abbrev pub IsOwnName : Text → Type 0
IsOwnName id = (id ≡ [] → ⊥) × (bytes_eq (codes "help") id ≡ false) × (bytes_eq (codes "version") id ≡ false)

module _ (old : Command) (m : ArgMatches) (p : IsParsedFrom old m) (id : Text) (q : ValueParser) (own : IsOwnName id)
    (has : HasParser id q (shape_of old).rules) (simple : has_simple_rules (shape_of old) ≡ true) where
  plain : has_plain_fields (out-Command old) ≡ true
  plain = (both _ _ simple).0

  no_globals : (out-Command old).has_globals ≡ false
  no_globals = is_false _ (both _ _ (both _ _ (both _ _ plain).1).1).0

  no_groups : groups_of p.built ≡ []
  no_groups = grind (arith, each_rule, both, is_nil, plain)

  -- an argument of the built command with this name has this parser
  built_parser : (k : ℕ) (x : Arg) → k < length (args_of p.built) → slice_index_or (args_of p.built) k x ≡ x → bytes_eq x.id.now id ≡ true
      → parser_of x ≡ q
  built_parser k x lt at same = elim (cases_lt k (length (args_of old))) [
    | inl under ↦
        let s = subst (λ w. SameRules (slice_index_or (args_of old) k x) w) at (p.from.kept k x under).1 in
        let there : bytes_eq (slice_index_or (args_of old) k x).id.now id ≡ true = rw (← s.id) same in
        ap parser_of_value (s.parser q (parser_at id q (args_of old) has k x under there))
    | inr over ↦
        let flag = p.from.extra k x over lt in
        elim flag [
          | inl h ↦
              let is : bytes_eq (codes "help") id ≡ true = ap (λ t. bytes_eq t id) (sym h) ∙ (ap (λ (y : Arg). bytes_eq y.id.now id) at ∙ same) in
              let bad : false ≡ true = sym own.1 ∙ is in
              cc
          | inr h ↦
              let is : bytes_eq (codes "version") id ≡ true = ap (λ t. bytes_eq t id) (sym h) ∙ (ap (λ (y : Arg). bytes_eq y.id.now id) at ∙ same) in
              let bad : false ≡ true = sym own.2 ∙ is in
              cc
        ]
  ]

  -- a value of the argument passed this parser
  value_passes : (v : Text) → PassesArg p.built id v → (b : Bool) × Accepts b q v
  value_passes v any = grind (arith, built_parser any.0 any.1 any.2 any.3 any.4.0)

  is_read : (r : Reading) → HasReading p.built id r → r ≡ reading_of q
  is_read r any = sym any.4.1 ∙ ap reading_of (built_parser any.0 any.1 any.2 any.3 any.4.0)

  abbrev Passed : Text → Type 0
  Passed u = (t : Text) × (u ≡ read_as (reading_of q) t) × ((b : Bool) × Accepts b q t)

  from_values : (how : Reading) (vs : List (Bor Text)) (u : Text) → how ≡ reading_of q → All (λ v. PassesArg p.built id v.now) vs
      → option_map (λ s. read_as how s.now) (slice_get vs 0) ≡ Some u → Passed u
  from_values how [] u is all e = cc
  from_values how (v ∷ vs) u is all e =
      let here : read_as how v.now ≡ u = cc in
      (v.now, sym here ∙ ap (λ h. read_as h v.now) is, value_passes v.now (All-get_or (λ w. PassesArg p.built id w.now) (v ∷ vs) 0 v (omega arith) all))

  from_entry : (x : MatchedArg) (e : Entry) (u : Text) → e.1 ≡ x → e.0.now ≡ id → EntryPasses p.built e
      → option_map (λ s. read_as x.reading s.now) (slice_get x.vals.items 0) ≡ Some u → Passed u
  from_entry x e u same key pass text =
      let no_group : e.1.is_group ≡ true → ⊥ = λ g. elim (pass.3 g) [
        | inl empty ↦ absurd (own.0 (sym key ∙ empty))
        | inr lots ↦
            let bad : 0 < 0 = rw no_groups at lots in
            absurd (omega arith)
      ] in
      let all : All (λ v. PassesArg p.built id v.now) x.vals.items = elim pass.0 [
        | inl g ↦ absurd (no_group g)
        | inr vals ↦ subst (λ (w : Text). All (λ v. PassesArg p.built w v.now) x.vals.items) key (rw same at vals)
      ] in
      let how : x.reading ≡ reading_of q = elim pass.4 [
        | inl g ↦ absurd (no_group g)
        | inr h ↦ is_read x.reading (subst (λ (w : Text). HasReading p.built w x.reading) key (rw same at h))
      ] in
      from_values x.reading x.vals.items u how all text

  -- the text that a getter reads is a value that passed
  pub text_passed : (u : Text) → one_of id (rows_of (found_of m)) ≡ Some u → Passed u
  text_passed u e =
      let parsed = p.parsed (p.from.globals ∙ no_globals) in
      go (matched_of (found_of m) id) refl (one_text-rows (found_of m) id ∙ e)
    where
      go : (o : Option MatchedArg) → matched_of (found_of m) id ≡ o → one_text (found_of m) id ≡ Some u → Passed u
      go None found text =
          let none : None ≡ Some u = rw found at text in
          cc
      go (Some x) found text =
          let got = entry_by_id (EntryPasses p.built) (found_of m).entries.items id x (p.parsed (p.from.globals ∙ no_globals)).values found in
          from_entry x got.0 u got.1 ((bytes_eq-Decides got.0.0.now id).0 got.2) got.3 (rw found at text)

-- ---- numbers

-- `number_of` is what a parse of an unsigned type gives
number_parses : (bits : ℕ) (u : Text) → ReadsOne {E = Unit {0}} (ParsesUnsigned bits 10) u (number_of bits u)
number_parses bits u =
    grind (arith, nat_lt (digits_value 10 (without_leading_plus u)) (2 ^ bits), both, numeral_from, ltb-true, numeral_passes, lt-ltb)

module _ (old : Command) (m : ArgMatches) (p : IsParsedFrom old m) (id : Text) (low high : ℕ) (own : IsOwnName id)
    (has : HasParser id (parser.Signed (pos low) (pos high)) (shape_of old).rules) (simple : has_simple_rules (shape_of old) ≡ true) where
  -- a number of the argument is within its bounds
  pub number_within : (bits n : ℕ) → high < 2 ^ bits → number_in bits id (rows_of (found_of m)) ≡ Some n → (low ≤ n) × (n ≤ high)
  number_within bits n fits e = go (one_of id (rows_of (found_of m))) refl e
    where
      go : (o : Option Text) → one_of id (rows_of (found_of m)) ≡ o → option_and_then (number_of bits) o ≡ Some n → (low ≤ n) × (n ≤ high)
      go None text number = cc
      go (Some u) text number =
          let passed = text_passed old m p id (parser.Signed (pos low) (pos high)) own has simple u text in
          let read : ReadsOne {E = Unit {0}} (ParsesUnsigned bits 10) (without_minus passed.0) (number_of bits u) =
          subst (λ (w : Text). ReadsOne {E = Unit {0}} (ParsesUnsigned bits 10) w (number_of bits u)) passed.1 (number_parses bits u) in
          let within = signed_reads _ (ParsesUnsigned bits 10) bits low high passed.0 (number_of bits u) read (λ v x h. h) fits passed.2.1 in
          let is : within.0 ≡ n = ap (λ o. unwrap_or o n) (sym within.1 ∙ number) in
          (rw (← is) within.2, rw (← is) within.3)
