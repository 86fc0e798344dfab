use Rattle.std.proofs.Common.{ap, sym, ◌∙◌}
use Rattle.gqlvalidate_settings.specs.Settings.{as_text}
use Rattle.gqlvalidate_settings.proofs.ListLemmas.{lacks_text}
use Rattle.gqlvalidate_settings.proofs.lists.texts_in.Goals as goal

pub returns-in_default-clause-refused : goal.returns-in_default-clause-refused
returns-in_default-clause-refused c = λ not_memory texts are.
    lacks_text c.args.items.now c.loop-item.item-index c.item-item.result c.loop-item-test.true
    (ap as_text (sym c.item-item.is) ∙ sym c.in_default.ensures) texts are
