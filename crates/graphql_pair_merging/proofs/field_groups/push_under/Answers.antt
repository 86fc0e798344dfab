use Rattle.std.proofs.Common.{◌++◌, ◌∷◌, [], Some, ap, cond, refl, subst, ◌∙◌, arith, length}
use Rattle.std.specs.Map.{lookup}
use Rattle.std.specs.Prelude.{IsSome, is_some}
use Rattle.graphql_nodes.specs.Names.{same_name}
use Rattle.graphql_pair_merging.specs.FieldGroups.{fields_in}
use Rattle.graphql_pair_merging.proofs.GroupLemmas.{pushed}
use Rattle.graphql_pair_merging.proofs.StepLemmas.{one_or_none}
use Rattle.graphql_pair_merging.proofs.field_groups.push_under.Goals as goal

pub returns-in_ok-push-in-Some-clause-pushed : goal.returns-in_ok-push-in-Some-clause-pushed
returns-in_ok-push-in-Some-clause-pushed c =
    pushed c.args.groups.now.entries _ c.args.name c.args.field c.push.new.self
    (c.in_ok-push-in-Some.ensures.items ∙ ap (λ o. fields_in o ++ c.args.field ∷ []) c.in-Some.ensures.value)
    ((c.get_mut.follows.holds c.push.new.self).3 (subst IsSome c.in-Some.ensures.value refl)).0

pub returns-in_ok-insert-in-None-clause-pushed : goal.returns-in_ok-insert-in-None-clause-pushed
returns-in_ok-insert-in-None-clause-pushed c =
    pushed c.args.groups.now.entries _ c.args.name c.args.field c.push-in-None.new.self
    (c.in_ok-push-in-None.ensures.items ∙ ap (λ l. l ++ c.args.field ∷ []) c.new-fields.ensures.items ∙ ap (λ o. fields_in o ++ c.args.field ∷ []) c.in-None.ensures.value)
    (λ q. c.in_ok-insert-in-None.ensures.updates.0 q ∙
    ap (λ (m : _). cond (same_name c.args.name.now q.now) (Some c.push-in-None.new.self) (lookup (λ k. same_name q.now k.now) m.entries)) c.get_mut.follows.holds-at-none)

pub returns-in_ok-push-in-Some-clause-count : goal.returns-in_ok-push-in-Some-clause-count
returns-in_ok-push-in-Some-clause-count c = omega (arith, (c.get_mut.follows.holds c.push.new.self).2)

pub returns-in_ok-insert-in-None-clause-count : goal.returns-in_ok-insert-in-None-clause-count
returns-in_ok-insert-in-None-clause-count c =
    omega (arith, c.in_ok-insert-in-None.ensures.len, one_or_none (is_some c.in_ok-insert-in-None.field-0), ap (λ (m : _). length m.entries) c.get_mut.follows.holds-at-none)
