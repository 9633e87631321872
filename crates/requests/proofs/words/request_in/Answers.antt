use Rattle.std.proofs.Common.{◌≡◌, ◌∙◌, map, string_bytes, Some, sym, ap, ⊎_elim, arith}
use Rattle.clap.specs.Words.{app_of, found_of, is_simple_and_free, rows_of}
use Rattle.clap.proofs.WalkLemmas.{both}
use Rattle.requests.specs.Commands.{command_of, tool_named}
use Rattle.requests.proofs.CommandLaws.{asks, commands_are_simple, first_word, limits, no_tool, no_words, refused, taken, through_meaning, without_words}
use Rattle.requests.proofs.words.request_in.Goals as goal

pub returns-in_default-clause-exact : goal.returns-in_default-clause-exact
returns-in_default-clause-exact c =
    no_words _ (without_words string_bytes c.args.words.now c.first.result c.first.ensures.value c.in_default.is)

pub returns-in_default-named-clause-exact : goal.returns-in_default-named-clause-exact
returns-in_default-named-clause-exact c =
    let first = first_word string_bytes c.args.words.now c.first.result c.in-Some.name c.first.ensures.value (c.in-Some.is ∙ ap Some c.in-Some.name-is) in
    no_tool _ first.0 (string_bytes c.in-Some.name.now) first.1 (ap tool_named (sym c.as_str.ensures.value) ∙ sym c.named.ensures ∙ c.in_default-named.is)

pub returns-in-Ok-clause-exact : goal.returns-in-Ok-clause-exact
returns-in-Ok-clause-exact c =
    let words = map string_bytes c.args.words.now in
    let tool = c.in-Some-named.tool in
    let first = first_word string_bytes c.args.words.now c.first.result c.in-Some.name c.first.ensures.value (c.in-Some.is ∙ ap Some c.in-Some.name-is) in
    let named : tool_named (string_bytes c.in-Some.name.now) ≡ Some tool = ap tool_named (sym c.as_str.ensures.value) ∙ sym c.named.ensures ∙ c.in-Some-named.is in
    let made : app_of c.in_ok-command.field-0 ≡ command_of tool = c.in_ok-command.ensures in
    let free = ap is_simple_and_free made ∙ commands_are_simple tool in
    let simple = (both _ _ free).0 in
    c.request.ensures
    ∙ taken tool words (app_of c.in_ok-command.field-0) (rows_of (found_of c.in-Ok.matches)) made (c.in-Ok.ensures.kinds free) (c.in-Ok.ensures.matches simple).0
    ∙ asks words first.0 (string_bytes c.in-Some.name.now) tool first.1 named

pub returns-in-Ok-clause-limits : goal.returns-in-Ok-clause-limits
returns-in-Ok-clause-limits c =
    grind (arith, through_meaning, limits c.in-Some-named.tool c.in_ok-command.field-0 c.in-Ok.matches c.in-Ok.ensures.parsed c.in_ok-command.ensures, c.request.ensures)

pub returns : goal.returns
returns c =
    let words = map string_bytes c.args.words.now in
    let tool = c.in-Some-named.tool in
    let first = first_word string_bytes c.args.words.now c.first.result c.in-Some.name c.first.ensures.value (c.in-Some.is ∙ ap Some c.in-Some.name-is) in
    let named : tool_named (string_bytes c.in-Some.name.now) ≡ Some tool = ap tool_named (sym c.as_str.ensures.value) ∙ sym c.named.ensures ∙ c.in-Some-named.is in
    let made : app_of c.in_ok-command.field-0 ≡ command_of tool = c.in_ok-command.ensures in
    let free = ap is_simple_and_free made ∙ commands_are_simple tool in
    record {
      exact = ⊎_elim (λ memory. absurd (c.in_default-kind.not-OutOfMemory (c.kind.ensures ∙ memory)))
          (λ among. refused tool words (app_of c.in_ok-command.field-0) _ made among ∙ asks words first.0 (string_bytes c.in-Some.name.now) tool first.1 named)
          (c.in-Err.ensures.kinds free);
      limits = tt;
    }
