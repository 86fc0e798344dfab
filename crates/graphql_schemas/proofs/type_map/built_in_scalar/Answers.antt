use Rattle.std.proofs.Common.{refl, ap, ◌∙◌}
use Rattle.graphql_schemas.proofs.type_map.built_in_scalar.Goals as goal

pub returns : goal.returns
returns c = λ key same place. record {
  scalar = c.in_ok-new_located.field-0;
  location = _;
  is_scalar = refl;
  key = same;
  key_place = place;
  name = ap (λ d. d.name.text) c.in_ok-new_located.ensures.value ∙ c.in_ok-known_name.ensures.text;
  name_place = ap (λ d. d.name.location) c.in_ok-new_located.ensures.value ∙ c.in_ok-known_name.ensures.place;
  no_directives = ap (λ d. d.directives.items) c.in_ok-new_located.ensures.value ∙ c.new.ensures.items;
  is_at = c.in_ok-new_located.ensures.location;
  in_built_in_file = refl;
  starts = refl;
  ends = refl;
}
