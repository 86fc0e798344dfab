use Rattle.std.proofs.Common.{◌≡◌, codes, IsTrue, IsFalse, string_bytes, refl, sym, subst, ◌∙◌, rules}
use Rattle.graphql_diagnostics.proofs.ReportLemmas.{holds, checks-push}
use Rattle.graphql_specification.specs.Values.{is_built_in_scalar, within_itself}
use Rattle.graphql_numbers.specs.Numbers.{FitsInt, integer_value}
use Rattle.graphql_values.proofs.LeafLemmas.{every_int_accepted, int_cannot, small_int_accepted, large_int_refused}
use Rattle.graphql_values.specs.ValueSteps.{takes_every_int, written_at}
use Rattle.graphql_values.proofs.value.leaves.check_int.Goals as goal

pub returns-then-takes_every_int : goal.returns-then-takes_every_int
returns-then-takes_every_int c = λ schema variables is.
    holds _ _ _ (every_int_accepted schema variables c.args.expected.now.ty.now c.args.expected.now.definition.now _ is c.args.number.now c.requires (search rules))

pub returns-then-not-is_built_in_scalar : goal.returns-then-not-is_built_in_scalar
returns-then-not-is_built_in_scalar c = λ schema variables is.
    let other : IsFalse (is_built_in_scalar (codes "Int") c.args.expected.now.definition.now) = search rules in
    let some : IsFalse (takes_every_int c.args.expected.now.definition.now) = search rules in
    c.unsupported_type.ensures schema variables c.args.expected.now.ty.now c.args.expected.now.definition.now is
    (int_cannot schema variables c.args.expected.now.ty.now c.args.expected.now.definition.now _ is c.args.number.now c.requires some other)

pub returns-then-is_some : goal.returns-then-is_some
returns-then-is_some c = λ schema variables is.
    let fits : FitsInt (integer_value c.args.number.now) = c.try_to_i32.ensures.fits.0 (search rules) in
    let int : IsTrue (is_built_in_scalar (codes "Int") c.args.expected.now.definition.now) = search rules in
    holds _ _ _ (small_int_accepted schema variables c.args.expected.now.ty.now c.args.expected.now.definition.now _ is c.args.number.now c.requires int fits)

pub returns : goal.returns
returns c = λ schema variables is.
    let large : ¬ FitsInt (integer_value c.args.number.now) = search rules in
    let int : IsTrue (is_built_in_scalar (codes "Int") c.args.expected.now.definition.now) = search rules in
    let some : IsFalse (takes_every_int c.args.expected.now.definition.now) = search rules in
    let text_is : string_bytes c.in_ok-text.text ≡ c.args.number.now = c.in_ok-text.ensures.ok ∙ c.as_str.ensures.text in
    checks-push _ _ _ _ _ _ c.push.ensures.ok c.push.ensures.err
    (large_int_refused schema variables c.args.expected.now.ty.now c.args.expected.now.definition.now _ is c.args.number.now c.requires some large)
    (record {
      inner_ty = written_at c.args.expected.now.ty.now c.args.expected.now.location;
      inner = c.args.value.now;
      lies = within_itself;
      broken = record {
        definition = c.args.expected.now.definition.now;
        defined = is;
        is_integer = search rules;
        out_of_range = (int, subst (λ t. ¬ FitsInt (integer_value t)) (sym text_is) large);
        at_is = refl;
      };
    })
