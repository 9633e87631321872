-- What words ask of a tool, by what its command makes of them, and that numbers are within their limits.
use Rattle.std.proofs.Common.{◌≡◌, ◌∙◌, ◌≤◌, ◌<◌, ◌^◌, ℕ, Bool, true, false, List, [], ◌∷◌, Option, Some, None, IfSome, map, refl, sym, ap, subst, arith, true≢false}
use Rattle.std.specs.Prelude.{codes, option_and_then, option_map, pos, slice_get, unwrap_or}
use Rattle.std.specs.Option.{option_copied}
use Rattle.std.specs.Borrow.{Bor}
use Rattle.clap.specs.Words.{App, Row, Rule, Shape, Text, app_of, fault_of, first_of, found_of, is_simple_and_free, matches_of, rows_of, shape_of}
use Rattle.clap.specs.Kinds.{IsAmong, Kinds}
use Rattle.clap.specs.Built.{IsParsedFrom}
use Rattle.clap.specs.Simple.{has_simple_rules}
use Rattle.clap.proofs.OnLiterals.{clap_on_literals}
use Rattle.clap.proofs.WalkLemmas.{both}
use Rattle.clap.specs.declared.builder.value_parser.ValueParser.TheVariants as parser
use Rattle.clap.specs.declared.builder.command.Command.{Command}
use Rattle.clap.specs.declared.error.kind.ErrorKind.{ErrorKind}
use Rattle.clap.specs.declared.parser.matches.ArgMatches.{ArgMatches}
use Rattle.requests.specs.Commands.{command_of, drawing_rules, search_rules, size_rule, tool_named}
use Rattle.requests.specs.Requests.{IsWithinLimits, Request, drawing_from, drawing_in, graph_in, meaning, request_by, request_of, request_to, search_from, search_in, without_fault}
use Rattle.requests.specs.Values.{ascent_in, number_in, split_in, truth_in}
use Rattle.requests.proofs.PassLaws.{HasParser, IsOwnName, number_within}
use Rattle.requests.specs.declared.request.Drawing.{Drawing}
use Rattle.requests.specs.declared.request.Request.{Request as Asked}
use Rattle.search_rules.specs.declared.options.SearchOptions.{SearchOptions}
use Rattle.search_rules.specs.declared.rules.AscentRule.{AscentRule}
use Rattle.search_rules.specs.declared.rules.SplitRule.{SplitRule}
use Rattle.requests.specs.declared.tool.Tool.{Tool}
use Rattle.requests.specs.declared.tool.Tool.TheVariants as tool

-- ---- the words

-- no word names no tool
pub no_words : (words : List Text) → words ≡ [] → None ≡ request_of words
unfolding request_of
no_words words e = rw e refl

pub no_tool : (words rest : List Text) (name : Text) → words ≡ name ∷ rest → tool_named name ≡ None → None ≡ request_of words
unfolding request_of
no_tool words rest name e none = rw (e, none) refl

pub asks : (words rest : List Text) (name : Text) (t : Tool) → words ≡ name ∷ rest → tool_named name ≡ Some t → request_to words t ≡ request_of words
unfolding request_of
asks words rest name t e named = rw (e, named) refl

-- ---- the command

pub commands_are_simple : (t : Tool) → is_simple_and_free (command_of t) ≡ true
unfolding clap_on_literals
commands_are_simple tool.Points = refl
commands_are_simple tool.Stp2points = refl
commands_are_simple tool.Rfst = refl
commands_are_simple tool.Prunefst = refl
commands_are_simple tool.Bb = refl
commands_are_simple tool.Solve = refl
commands_are_simple tool.Check = refl
commands_are_simple tool.Dumpfst = refl
commands_are_simple tool.Fst2graph = refl
commands_are_simple tool.Plot = refl
commands_are_simple tool.Trial = refl
commands_are_simple tool.Upgrade = refl
commands_are_simple tool.Graph = refl
commands_are_simple tool.Checkgraph = refl
commands_are_simple tool.Reduce = refl
commands_are_simple tool.Obstacles = refl
commands_are_simple tool.Slack = refl

-- the command took the words
pub taken : (t : Tool) (words : List Text) (app : App) (rows : List Row) → app ≡ command_of t → fault_of app words ≡ [] → rows ≡ matches_of app words
    → request_by t rows ≡ request_to words t
taken t words app rows is none found = grind arith

-- the command refused the words
pub refused : (t : Tool) (words : List Text) (app : App) (k : ErrorKind) → app ≡ command_of t → IsAmong k (fault_of app words) → None ≡ request_to words t
refused t words app k is h = go (fault_of (command_of t) words) (subst (λ (a : App). IsAmong k (fault_of a words)) is h)
  where
    go : (kinds : Kinds) → IsAmong k kinds → None ≡ without_fault kinds (request_by t (matches_of (command_of t) words))
    go [] h = absurd h
    go (x ∷ xs) h = refl

-- ---- limits

size_name : IsOwnName (codes "size")
size_name = ((λ e. cc), refl, refl)

count_name : IsOwnName (codes "count")
count_name = ((λ e. cc), refl, refl)

concat_name : IsOwnName (codes "concat")
concat_name = ((λ e. cc), refl, refl)

-- the parsers of the numbers
abbrev CountParser : List Rule → Type 0
CountParser = HasParser (codes "count") (parser.Signed (pos 1) (pos 50))

abbrev SizeParser : List Rule → Type 0
SizeParser = HasParser (codes "size") (parser.Signed (pos 2) (pos 8))

abbrev ConcatParser : List Rule → Type 0
ConcatParser = HasParser (codes "concat") (parser.Signed (pos 0) (pos 20000))

other : {A : Type 0} → false ≡ true → A
other e = absurd (true≢false (sym e))

count_parser : CountParser drawing_rules
count_parser = ((λ e. refl), ((λ e. other e), tt))

concat_parser : ConcatParser search_rules
concat_parser = ((λ e. other e), ((λ e. refl), ((λ e. other e), ((λ e. other e), tt))))

size_parser : SizeParser (size_rule ∷ search_rules)
size_parser = ((λ e. refl), ((λ e. other e), ((λ e. other e), ((λ e. other e), ((λ e. other e), tt)))))

-- a number of the tool's argument is within its bounds
module _ (t : Tool) (old : Command) (m : ArgMatches) (p : IsParsedFrom old m) (is : app_of old ≡ command_of t) where
  shape_is : shape_of old ≡ (command_of t).top
  shape_is = ap (λ (a : App). a.top) is

  simple : has_simple_rules (shape_of old) ≡ true
  simple = ap has_simple_rules shape_is ∙ (both _ _ (both _ _ (both _ _ (commands_are_simple t)).0).0).0

  within : (id : Text) (low high bits n : ℕ) → IsOwnName id → HasParser id (parser.Signed (pos low) (pos high)) (command_of t).top.rules → high < 2 ^ bits
      → number_in bits id (rows_of (found_of m)) ≡ Some n → (low ≤ n) × (n ≤ high)
  within id low high bits n own has fits e =
      let there = subst (λ (s : Shape). HasParser id (parser.Signed (pos low) (pos high)) s.rules) (sym shape_is) has in
      number_within old m p id low high own there simple bits n fits e

  count_within : CountParser (command_of t).top.rules → (n : ℕ) → number_in 8 (codes "count") (rows_of (found_of m)) ≡ Some n → (1 ≤ n) × (n ≤ 50)
  count_within has n e = let fits : 50 < 2 ^ 8 = omega arith in within (codes "count") 1 50 8 n count_name has fits e

  size_within : SizeParser (command_of t).top.rules → (n : ℕ) → number_in 8 (codes "size") (rows_of (found_of m)) ≡ Some n → (2 ≤ n) × (n ≤ 8)
  size_within has n e = let fits : 8 < 2 ^ 8 = omega arith in within (codes "size") 2 8 8 n size_name has fits e

  concat_within : ConcatParser (command_of t).top.rules → (n : ℕ) → number_in 32 (codes "concat") (rows_of (found_of m)) ≡ Some n → (0 ≤ n) × (n ≤ 20000)
  concat_within has n e = let fits : 20000 < 2 ^ 32 = omega arith in within (codes "concat") 0 20000 32 n concat_name has fits e

-- what holds of the drawing, and of the search
drawing_limits : (rows : List Row) (make : Drawing → Request) → ((d : Drawing) → (1 ≤ d.count) × (d.count ≤ 50) → IsWithinLimits (make d))
    → ((n : ℕ) → number_in 8 (codes "count") rows ≡ Some n → (1 ≤ n) × (n ≤ 50)) → IfSome (option_map make (drawing_in rows)) IsWithinLimits
drawing_limits rows make within bound = go (number_in 8 (codes "count") rows) (number_in 64 (codes "seed") rows) refl
  where
    go : (count seed : Option ℕ) → number_in 8 (codes "count") rows ≡ count
        → IfSome (option_map make (drawing_from count seed)) IsWithinLimits
    go None seed e = tt
    go (Some n) None e = tt
    go (Some n) (Some s) e = within (record { count = n; seed = s }) (bound n e)

search_limits : (rows : List Row) → ((n : ℕ) → number_in 32 (codes "concat") rows ≡ Some n → (0 ≤ n) × (n ≤ 20000))
    → IfSome (search_in rows) (λ s. s.concat ≤ 20000)
search_limits rows bound = go (number_in 8 (codes "openings") rows) (number_in 32 (codes "concat") rows) (ascent_in rows) (split_in rows) refl
  where
    go : (openings concat : Option ℕ) (ascent : Option AscentRule) (split : Option SplitRule) → number_in 32 (codes "concat") rows ≡ concat
        → IfSome (search_from openings concat ascent split) (λ (s : SearchOptions). s.concat ≤ 20000)
    go None concat ascent split e = tt
    go (Some a) None ascent split e = tt
    go (Some a) (Some b) None split e = tt
    go (Some a) (Some b) (Some c) None e = tt
    go (Some a) (Some b) (Some c) (Some d) e = (bound b e).1

mapped : {A : Type 0} (o : Option A) (make : A → Request) (P : A → Type 0) → ((x : A) → o ≡ Some x → P x → IsWithinLimits (make x)) → ((x : A) → o ≡ Some x → P x)
    → IfSome (option_map make o) IsWithinLimits
mapped None make P within holds = tt
mapped (Some x) make P within holds = within x refl (holds x refl)

if_some : {A : Type 0} (o : Option A) (P : A → Type 0) → IfSome o P → (x : A) → o ≡ Some x → P x
if_some None P h x e = cc
if_some (Some y) P h x e = subst P (ap (λ o. unwrap_or o x) e) h

free : {A : Type 0} (o : Option A) (make : A → Request) → ((x : A) → IsWithinLimits (make x)) → IfSome (option_map make o) IsWithinLimits
free None make h = tt
free (Some x) make h = h x

solve_limits : (rows : List Row) → ((n : ℕ) → number_in 8 (codes "size") rows ≡ Some n → (2 ≤ n) × (n ≤ 8))
    → ((n : ℕ) → number_in 32 (codes "concat") rows ≡ Some n → (0 ≤ n) × (n ≤ 20000)) → IfSome (request_by tool.Solve rows) IsWithinLimits
solve_limits rows size concat = go (number_in 8 (codes "size") rows) refl
  where
    go : (o : Option ℕ) → number_in 8 (codes "size") rows ≡ o → IfSome (option_and_then (λ n. option_map (Request.Solve n) (search_in rows)) o) IsWithinLimits
    go None e = tt
    go (Some n) e = mapped (search_in rows) (Request.Solve n) (λ s. s.concat ≤ 20000) (λ x f h. (size n e, h)) (if_some _ _ (search_limits rows concat))

-- no number of a search in a graph has other limits than those of its width
obstacles_limits : (o : Option Bool) (rows : List Row) →
    IfSome (option_and_then (λ stp. option_map (Request.Obstacles stp) (graph_in rows)) o) IsWithinLimits
obstacles_limits None rows = tt
obstacles_limits (Some stp) rows = free (graph_in rows) (Request.Obstacles stp) (λ x. tt)

pub limits : (t : Tool) (old : Command) (m : ArgMatches) → IsParsedFrom old m → app_of old ≡ command_of t → IfSome (request_by t (rows_of (found_of m))) IsWithinLimits
limits tool.Points old m p is = drawing_limits (rows_of (found_of m)) Request.Points (λ d h. h) (count_within tool.Points old m p is count_parser)
limits tool.Stp2points old m p is = tt
limits tool.Rfst old m p is = mapped (number_in 8 (codes "size") (rows_of (found_of m))) Request.Rfst (λ n. (2 ≤ n) × (n ≤ 8)) (λ x e h. h)
    (size_within tool.Rfst old m p is ((λ e. refl), tt))
limits tool.Prunefst old m p is = tt
limits tool.Bb old m p is = mapped (search_in (rows_of (found_of m))) Request.Bb (λ s. s.concat ≤ 20000) (λ x e h. h)
    (if_some _ _ (search_limits (rows_of (found_of m)) (concat_within tool.Bb old m p is concat_parser)))
limits tool.Solve old m p is = solve_limits (rows_of (found_of m)) (size_within tool.Solve old m p is size_parser)
    (concat_within tool.Solve old m p is ((λ e. other e), concat_parser))
limits tool.Check old m p is = free (first_of (codes "points") (rows_of (found_of m))) Request.Check (λ x. tt)
limits tool.Dumpfst old m p is = free (truth_in (codes "pieces") (rows_of (found_of m))) Request.Dumpfst (λ x. tt)
limits tool.Fst2graph old m p is = tt
limits tool.Plot old m p is = free (first_of (codes "points") (rows_of (found_of m))) Request.Plot (λ x. tt)
limits tool.Trial old m p is = drawing_limits (rows_of (found_of m)) Request.Trial (λ d h. h) (count_within tool.Trial old m p is count_parser)
limits tool.Upgrade old m p is = free (first_of (codes "points") (rows_of (found_of m))) Request.Upgrade (λ x. tt)
limits tool.Graph old m p is = free (graph_in (rows_of (found_of m))) Request.Graph (λ x. tt)
limits tool.Checkgraph old m p is = free (first_of (codes "stp") (rows_of (found_of m))) Request.Checkgraph (λ x. tt)
limits tool.Reduce old m p is = free (truth_in (codes "solve") (rows_of (found_of m))) Request.Reduce (λ x. tt)
limits tool.Obstacles old m p is = obstacles_limits (truth_in (codes "stp") (rows_of (found_of m))) (rows_of (found_of m))
limits tool.Slack old m p is =
    free (ascent_in (rows_of (found_of m))) (Request.Slack (number_in 64 (codes "above") (rows_of (found_of m)))) (λ x. tt)

-- ---- what the code holds

no_first : {A : Type 0} (xs : List A) (o : Option (Bor A)) → option_copied o ≡ slice_get xs 0 → o ≡ None → xs ≡ []
no_first [] o e none = refl
no_first (x ∷ xs) o e none = grind arith

pub without_words : {A : Type 0} (f : A → Text) (xs : List A) (o : Option (Bor A)) → option_copied o ≡ slice_get xs 0 → o ≡ None → map f xs ≡ []
without_words f xs o e none = ap (map f) (no_first xs o e none)

pub first_word : {A : Type 0} (f : A → Text) (xs : List A) (o : Option (Bor A)) (r : Bor A) → option_copied o ≡ slice_get xs 0 → o ≡ Some r
    → (rest : List Text) × (map f xs ≡ f r.now ∷ rest)
first_word f [] o r e some =
    let bad : Some r.now ≡ None = rw some at e in
    cc
first_word f (x ∷ xs) o r e some =
    let same : Some r.now ≡ Some x = rw some at e in
    (map f xs, ap (λ p. f (unwrap_or p x) ∷ map f xs) (sym same))

pub through_meaning : (o : Option Asked) (r : Option Request) → option_map meaning o ≡ r → IfSome r IsWithinLimits → IfSome o (λ q. IsWithinLimits (meaning q))
through_meaning None r e h = tt
through_meaning (Some x) r e h = subst (λ s. IfSome s IsWithinLimits) (sym e) h
