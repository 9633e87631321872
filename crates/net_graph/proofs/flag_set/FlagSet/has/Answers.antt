use Rattle.std.proofs.Common.{false, ap, ◌∙◌, sym, Some}
use Rattle.std.proofs.lemmas.Option.{slice_get-get_or}
use Rattle.net_graph.proofs.lemmas.FlagWords.{word_within, flag_read}
use Rattle.net_graph.proofs.flag_set.FlagSet.has.Goals as goal

pub index-requires : goal.index-requires
index-requires c =
    rw c.self.inside.words.ok.0 (word_within c.self.inside.words.items c.args.self.now c.self.inside.size c.args.n c.self.view_is c.self.invariant c.requires)

pub returns-clause-flag : goal.returns-clause-flag
returns-clause-flag c =
    slice_get-get_or c.args.self.now c.args.n false c.requires ∙ ap Some (sym (flag_read c.self.inside.words.items c.args.self.now c.self.inside.size c.args.n c.index.result.now false c.self.view_is c.self.invariant c.requires c.index.ensures))

pub returns-clause-within : goal.returns-clause-within
returns-clause-within c =
    flag_read c.self.inside.words.items c.args.self.now c.self.inside.size c.args.n c.index.result.now false c.self.view_is c.self.invariant c.requires c.index.ensures
