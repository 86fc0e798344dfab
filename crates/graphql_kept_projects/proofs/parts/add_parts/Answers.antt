use Rattle.std.proofs.Common.{◌≡◌, refl, rules}
use Rattle.std.specs.String.{string_bytes}
use Rattle.graphql_blanks.specs.Blanks.{part_text}
use Rattle.graphql_kept_projects.proofs.DocumentLemmas.{one_more_part}
use Rattle.graphql_kept_projects.proofs.parts.add_parts.Goals as goal

pub loop-part-preserved-in-Continue-branch-4 : goal.loop-part-preserved-in-Continue-branch-4
loop-part-preserved-in-Continue-branch-4 c =
    let bytes : string_bytes c.in-Some-2.text ≡ part_text c.args.source.text.now c.in-Some.part.start c.in-Some.part.end = search rules in
    one_more_part c.args.source c.args.parts.now.items c.loop-part.parts.items c.push.new.self.items (record { file_id = c.args.source.file_id; text = c.in-Some-2.text })
    c.loop-part.invariant c.in_ok-push.ensures.items (refl, c.in-Some.part.start, c.in-Some.part.end, bytes)
