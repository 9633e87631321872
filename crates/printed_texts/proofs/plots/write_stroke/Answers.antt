use Rattle.std.proofs.Common.{codes}
use Rattle.text_out.specs.GatherLaws.{gathers_five}
use Rattle.printed_texts.specs.Plot.{page_text}
use Rattle.printed_texts.proofs.lemmas.Strokes.{five_pieces}
use Rattle.printed_texts.proofs.plots.write_stroke.Goals as goal

pub returns : goal.returns
returns g c =
    gathers_five _ _ _ _ _ _ _ _ _ _ _ _ _ _ _ _ _ _ c.literal.ensures c.write_page_point.ensures c.literal-2.ensures c.write_page_point-2.ensures c.literal-3.ensures
    (five_pieces (codes "newpath\n") (page_text c.args.from.now) (codes " moveto\n") (page_text c.args.to.now) (codes " lineto\nstroke\n"))
