use Rattle.std.proofs.Common.{refl, sym, ◌∙◌}
use Rattle.graphql_schemas.proofs.ExtensionLemmas.{among_known, among_new, is_among, is_none, numbers_more, numbers_same}
use Rattle.graphql_schemas.proofs.extensions.add_extension.Goals as goal

pub returns-in_ok-push : goal.returns-in_ok-push
returns-in_ok-push c =
    let e = c.in-Extension.extension in
    let new = is_none c.args.found.now e c.in_ok-is_new.is_new c.requires c.in_ok-is_new.ensures.added c.if-is_new.true in
    record {
      extensions = c.in_ok-push.ensures.items ∙ sym (among_new c.args.found.now.extensions.items e c.args.origin.now c.in-Extension.is new);
      numbers = numbers_more c.args.found.now _ e c.requires c.in_ok-is_new.ensures.updates c.in_ok-push.ensures.items;
    }

pub returns-else-is_new : goal.returns-else-is_new
returns-else-is_new c =
    let e = c.in-Extension.extension in
    let known = is_among c.args.found.now e c.in_ok-is_new.is_new c.requires c.in_ok-is_new.ensures.added c.if-is_new.false in
    record {
      extensions = sym (among_known c.args.found.now.extensions.items e c.args.origin.now c.in-Extension.is known);
      numbers = numbers_same c.args.found.now _ c.in_ok-is_new.is_new c.requires c.in_ok-is_new.ensures.unchanged c.if-is_new.false refl;
    }
