-- What contracts see of numbers under names.
use Rattle.std.specs.Prelude.{ℕ, Option}
use Rattle.std.specs.BTreeMap.{IsOrdered, get_by}
use Rattle.std.specs.Cmp.Lexicographic.{slice_cmp}
use Rattle.std.specs.Ordering.{nat_cmp}
use Rattle.graphql_nodes.specs.Names.{NameText}
use Rattle.graphql_value_numbers.specs.declared.named_numbers.NamedNumbers.{NamedNumbers}

-- the number under a name
abbrev pub number_under : NamedNumbers → NameText → Option ℕ
number_under numbers name = get_by (λ text. slice_cmp nat_cmp name.text text.now) numbers.numbers

-- the names ascend
abbrev pub AreOrdered : NamedNumbers → Type 0
AreOrdered numbers = IsOrdered (λ a b. slice_cmp nat_cmp a.now b.now) numbers.numbers
