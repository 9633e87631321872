use Rattle.net_graph.proofs.lemmas.FlagWords.{word_within, flags_after_add}
use Rattle.net_graph.proofs.flag_set.FlagSet.add.Goals as goal

pub index_mut-requires : goal.index_mut-requires
index_mut-requires c =
    rw c.self.inside.words.ok.0 (word_within c.self.inside.words.items c.args.self.now c.self.inside.size c.args.n c.self.view_is c.self.invariant c.requires)

pub returns : goal.returns
returns c =
    flags_after_add c.self.inside.words.items c.args.self.now c.self.inside.size c.args.n c.index_mut.result.now c.self.view_is c.self.invariant c.requires c.index_mut.ensures.value
