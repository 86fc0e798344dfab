-- Readers whose refused tokens can be completed: extensions, which are to add something.
use Rattle.std.proofs.Common.{◌≡◌, ℕ, zero, suc, Bool, true, false, ◌||◌, inl, inr, List, [], ◌∷◌, ◌++◌, None, Ok, refl, sym, subst, ◌∙◌}
use Rattle.graphql_nodes.specs.Names.{NameText}
use Rattle.graphql_nodes.specs.declared.spans.SourceSpan.{SourceSpan}
use Rattle.graphql_tokens.specs.declared.token.TokenKind.{TokenKind}
use Rattle.graphql_tokens.specs.declared.token.TokenKind.TheVariants.{Ampersand, Equals, At, LeftBrace, VerticalBar}
use Rattle.graphql_trees.specs.declared.directives.Directive.{Directive}
use Rattle.graphql_trees.specs.declared.type_system.EnumTypeDefinition.{EnumTypeDefinition}
use Rattle.graphql_trees.specs.declared.type_system.EnumValueDefinition.{EnumValueDefinition}
use Rattle.graphql_trees.specs.declared.type_system.FieldDefinition.{FieldDefinition}
use Rattle.graphql_trees.specs.declared.type_system.InputValueDefinition.{InputValueDefinition}
use Rattle.graphql_trees.specs.declared.type_system.RootOperationTypeDefinition.{RootOperationTypeDefinition}
use Rattle.graphql_trees.specs.declared.type_system.InputObjectTypeDefinition.{InputObjectTypeDefinition}
use Rattle.graphql_trees.specs.declared.type_system.InterfaceTypeDefinition.{InterfaceTypeDefinition}
use Rattle.graphql_trees.specs.declared.type_system.ObjectTypeDefinition.{ObjectTypeDefinition}
use Rattle.graphql_trees.specs.declared.type_system.ScalarTypeDefinition.{ScalarTypeDefinition}
use Rattle.graphql_trees.specs.declared.type_system.SchemaDefinition.{SchemaDefinition}
use Rattle.graphql_trees.specs.declared.type_system.UnionTypeDefinition.{UnionTypeDefinition}
use Rattle.graphql_syntax.specs.declared.keywords.Keyword.TheVariants as keyword
use Rattle.graphql_syntax.specs.declared.refusals.Expected.TheVariants as expected
use Rattle.graphql_syntax.specs.DirectiveReaders.{directive_at, directives_at}
use Rattle.graphql_syntax.specs.Inputs.{same_kind, Input, TokenTest, is_kind, is_keyword}
use Rattle.graphql_syntax.specs.Reading.{Reader, ◌>>=◌, answer, place, name_at, many_behind, some_of}
use Rattle.graphql_syntax.proofs.ReaderLemmas.{sequence_ok, choose_ok, answer_ok, too_deep_not_ok, refuse_not_ok}
use Rattle.graphql_syntax.proofs.RepetitionLemmas.{many_from_sound}
use Rattle.graphql_type_system_syntax.specs.BodyReaders.{in_braces_with, in_braces_at, perhaps_in_braces_at, separated_at, is_filled, with_part}
use Rattle.graphql_type_system_syntax.specs.DefinitionReaders.{extension_behind, extension_at}
use Rattle.graphql_type_system_syntax.specs.FieldReaders.{field_definition_at, interfaces_in, interfaces_at}
use Rattle.graphql_type_system_syntax.specs.InputValueReaders.{input_value_definition_at}
use Rattle.graphql_type_system_syntax.specs.SchemaReaders.{root_operation_at, schema_added}
use Rattle.graphql_type_system_syntax.specs.TypeDefinitionReaders.{members_in, members_at, enum_value_definition_at, scalar_behind, object_behind, interface_behind, union_behind, enum_behind, input_object_behind}
use Rattle.graphql_type_system_syntax.specs.TypeExtensionReaders.{scalar_added, object_added, interface_added, union_added, enum_added, input_object_added, type_extension_behind}
use Rattle.graphql_completions.proofs.Likeness.{View, Word, stops_second}
use Rattle.graphql_completions.proofs.Completions.{Goes, Starts, moving, starts_sequence, goes_answer, goes_place, goes_sequence, inner_refuse}
use Rattle.graphql_completions.proofs.Choices.{goes_first, goes_second, inner_choose, goes_starting}
use Rattle.graphql_completions.proofs.PartReaders.{same_goes, sequence_same, sequence_twice, placed_part, Shows, shows_many, shows_optional, shows_one, shows_two, shows_three, starts_many, goes_part}
use Rattle.graphql_completions.proofs.TokenReaders.{kind_view, kind_shown, keyword_shown, sign, keyword_word, name_word, goes_keyword, goes_name}
use Rattle.graphql_completions.proofs.SyntaxReaders.{directives_views, directive_goes, directives_goes}
use Rattle.graphql_completions.proofs.TypeSystemReaders.{input_value_goes, in_braces_goes, perhaps_goes, interfaces_views, interfaces_in_goes, interfaces_goes, members_views, members_in_goes, members_goes, field_definition_goes, enum_value_goes, root_operation_goes}
use Rattle.graphql_completions.proofs.DefinitionReaders.{fields_views, body_views}

-- a directive alone
abbrev pub directive_words : List Word
directive_words = sign At 64 ∷ name_word ∷ []

directives_starts : (depth : ℕ) → Starts directives_views directive_words (directives_at true (suc depth))
unfolding directives_at same_kind
directives_starts depth = starts_many (kind_view At) _ directive_words (is_kind At) (directive_at true depth) (directive_at true (suc depth)) (kind_shown At) refl refl (directive_goes true true depth)

directives_shows : (depth : ℕ) → Shows is_filled (directives_at true depth)
unfolding directives_at
directives_shows depth = shows_many (is_kind At) (directive_at true depth) (λ i found e. (directive_goes true false depth).inner.moves refl i found e)

-- what is answered of separators, and of braces, has one at least
behind_first_filled : {A : Type 0} (test : TokenTest) (item : Reader A) (first : A) (i : Input) (found : List A × Input) → many_behind test item (first ∷ []) i ≡ Ok found → is_filled found.0 ≡ true
unfolding many_behind
behind_first_filled {A} test item first i found e =
    let (xs, same, are) = many_from_sound (λ i x j. item i ≡ Ok (x, j)) test item (λ i r e. e) _ (first ∷ []) i found e in
    subst (λ ys. is_filled ys ≡ true) (sym same) refl

separated_results : {A : Type 0} (separator : TokenKind) (item : Reader A) (i : Input) (found : List A × Input) → separated_at separator item i ≡ Ok found → is_filled found.0 ≡ true
unfolding separated_at
separated_results separator item i found e =
    let (m, em, e1) = sequence_ok _ _ i found e in
    let (k, ek, e2) = sequence_ok _ _ m.1 found e1 in
    behind_first_filled _ _ k.0 k.1 found e2

braces_results : {A : Type 0} (item : ℕ → Reader A) (depth : ℕ) (i : Input) (found : List A × Input) → in_braces_at item depth i ≡ Ok found → is_filled found.0 ≡ true
unfolding in_braces_at in_braces_with some_of
braces_results item zero i found e = elim (choose_ok _ _ _ i found e) [ inl h ↦ absurd (too_deep_not_ok i found h.1) | inr h ↦ absurd (refuse_not_ok _ i found h.1) ]
braces_results item (suc depth) i found e =
    let (m, em, e1) = sequence_ok _ _ i found e in
    let (k, ek, e2) = sequence_ok _ _ m.1 found e1 in
    let (l, el, e3) = sequence_ok _ _ k.1 found e2 in
    let (n, en, e4) = sequence_ok _ _ m.1 k ek in
    subst (λ ys. is_filled ys ≡ true) (answer_ok k.0 l.1 found e3).0 (behind_first_filled _ _ n.0 n.1 k e4)

by_words : (i : Input) (found : List NameText × Input) → interfaces_in i ≡ Ok found → is_filled found.0 ≡ true
unfolding interfaces_in
by_words i found e = let (m, em, e1) = sequence_ok _ _ i found e in separated_results Ampersand name_at m.1 found e1

interfaces_shows : Shows is_filled interfaces_at
unfolding interfaces_at
interfaces_shows = shows_optional _ (is_keyword keyword.Implements) interfaces_in interfaces_in (moving refl interfaces_in_goes) (λ i found e. by_words i found e)

by_equals : (i : Input) (found : List NameText × Input) → members_in i ≡ Ok found → is_filled found.0 ≡ true
unfolding members_in
by_equals i found e = let (m, em, e1) = sequence_ok _ _ i found e in separated_results VerticalBar name_at m.1 found e1

members_shows : Shows is_filled members_at
unfolding members_at
members_shows = shows_optional _ (is_kind Equals) members_in members_in (moving refl members_in_goes) (λ i found e. by_equals i found e)

braces_shows : {A : Type 0} (item : ℕ → Reader A) (depth : ℕ) (words : List Word) → Goes [] (sign LeftBrace 123 ∷ words) (in_braces_at item depth) (in_braces_at item (suc depth)) →
    Shows is_filled (perhaps_in_braces_at item depth)
unfolding perhaps_in_braces_at
braces_shows item depth words one = shows_optional _ (is_kind LeftBrace) (in_braces_at item depth) (in_braces_at item (suc depth)) (moving refl one) (λ i found e. braces_results item depth i found e)

-- more that is not to follow
starts_more : {A : Type 0} (views others : List View) (words : List Word) (q : Reader A) → Starts others words q → Starts (views ++ others) words q
starts_more views others words q f k tokens s same spells stop = f k tokens s same spells (stops_second views others k.source s stop)

-- directives alone, with a part in them
abbrev with_directives : {A : Type 0} → (List Directive → SourceSpan → A) → ℕ → ℕ → Reader A
with_directives make depth start = directives_at true depth >>= λ x. place start >>= λ span. answer (make x span)

directives_part : {A : Type 0} (make : List Directive → SourceSpan → A) (test : A → Bool) (depth start : ℕ) → ((x : List Directive) (span : SourceSpan) → test (make x span) ≡ is_filled x) →
    Goes directives_views directive_words (with_directives make depth start >>= λ x. with_part (test x) x) (with_directives make (suc depth) start >>= λ x. with_part (test x) x)
directives_part make test depth start same =
    goes_part test (with_directives make depth start) (with_directives make (suc depth) start)
    (goes_sequence (directives_goes true true depth) refl (λ x. goes_sequence (goes_place start) refl (λ span. goes_answer _)))
    (shows_one _ start make test (directives_shows depth) same) (shows_one _ start make test (directives_shows (suc depth)) same) refl
    (starts_sequence directives_views directive_words [] [] _ _ refl (directives_starts depth) (λ x. (goes_sequence (goes_place start) refl (λ span. goes_answer _)).starts))

-- directives, and others behind them
abbrev with_others : {A B : Type 0} → (List Directive → List B → SourceSpan → A) → (ℕ → Reader (List B)) → ℕ → ℕ → Reader A
with_others make other depth start = directives_at true depth >>= λ x. other depth >>= λ y. place start >>= λ span. answer (make x y span)

others_part : {A B : Type 0} (view : View) (views : List View) (make : List Directive → List B → SourceSpan → A) (test : A → Bool) (other : ℕ → Reader (List B)) (depth start : ℕ) →
    ((x : List Directive) (y : List B) (span : SourceSpan) → test (make x y span) ≡ (is_filled x || is_filled y)) → ((depth : ℕ) → Goes (view ∷ views) [] (other depth) (other (suc depth))) →
    ((depth : ℕ) → Shows is_filled (other depth)) →
    Goes (directives_views ++ (view ∷ views) ++ []) directive_words (with_others make other depth start >>= λ x. with_part (test x) x) (with_others make other (suc depth) start >>= λ x. with_part (test x) x)
others_part view views make test other depth start same goes shows =
    goes_part test (with_others make other depth start) (with_others make other (suc depth) start)
    (goes_sequence (directives_goes true true depth) refl (λ x. behind x depth))
    (shows_two _ _ start make test (directives_shows depth) (shows depth) (λ i found e. (directives_goes true true depth).inner.less i found e) (λ i found e. (goes depth).inner.less i found e) same)
    (shows_two _ _ start make test (directives_shows (suc depth)) (shows (suc depth)) (λ i found e. (directives_goes true true (suc depth)).inner.less i found e) (λ i found e. (goes (suc depth)).inner.less i found e) same)
    refl
    (starts_sequence directives_views directive_words ((view ∷ views) ++ []) [] _ _ refl (directives_starts depth) (λ x. (behind x depth).starts)) where
      behind : (x : List Directive) (depth : ℕ) → Goes ((view ∷ views) ++ []) [] (other depth >>= λ y. place start >>= λ span. answer (make x y span)) (other (suc depth) >>= λ y. place start >>= λ span. answer (make x y span))
      behind x depth = goes_sequence (goes depth) refl (λ y. goes_sequence (goes_place start) refl (λ span. goes_answer _))

-- interfaces, directives and fields
abbrev with_fields : {A : Type 0} → (List NameText → List Directive → List FieldDefinition → SourceSpan → A) → ℕ → ℕ → Reader A
with_fields make depth start = interfaces_at >>= λ x. directives_at true depth >>= λ y. perhaps_in_braces_at field_definition_at depth >>= λ z. place start >>= λ span. answer (make x y z span)

perhaps_fields_goes : (depth : ℕ) → Goes (kind_view LeftBrace ∷ []) [] (perhaps_in_braces_at field_definition_at depth) (perhaps_in_braces_at field_definition_at (suc depth))
unfolding same_kind
perhaps_fields_goes depth = perhaps_goes _ _ _ _ depth refl refl field_definition_goes

fields_shows : (depth : ℕ) → Shows is_filled (perhaps_in_braces_at field_definition_at depth)
unfolding same_kind
fields_shows depth = braces_shows field_definition_at depth _ (in_braces_goes _ _ _ _ depth refl refl field_definition_goes)

fields_part : {A : Type 0} (make : List NameText → List Directive → List FieldDefinition → SourceSpan → A) (test : A → Bool) (depth start : ℕ) →
    ((x : List NameText) (y : List Directive) (z : List FieldDefinition) (span : SourceSpan) → test (make x y z span) ≡ (is_filled x || (is_filled y || is_filled z))) →
    Goes fields_views directive_words (with_fields make depth start >>= λ x. with_part (test x) x) (with_fields make (suc depth) start >>= λ x. with_part (test x) x)
unfolding same_kind
fields_part make test depth start same =
    goes_part test (with_fields make depth start) (with_fields make (suc depth) start)
    (goes_sequence interfaces_goes refl (λ x. goes_sequence (directives_goes true true depth) refl (λ y. behind x y)))
    (shows_three _ _ _ start make test interfaces_shows (directives_shows depth) (fields_shows depth)
    (λ i found e. interfaces_goes.inner.less i found e) (λ i found e. (directives_goes true true depth).inner.less i found e) (λ i found e. (perhaps_fields_goes depth).inner.less i found e) same)
    (shows_three _ _ _ start make test interfaces_shows (directives_shows (suc depth)) (fields_shows (suc depth))
    (λ i found e. interfaces_goes.inner.less i found e) (λ i found e. (directives_goes true true (suc depth)).inner.less i found e) (λ i found e. (perhaps_fields_goes (suc depth)).inner.less i found e) same)
    refl
    (starts_more interfaces_views body_views directive_words _
    (starts_sequence interfaces_views [] body_views directive_words _ _ refl interfaces_goes.starts (λ x.
    starts_sequence directives_views directive_words (kind_view LeftBrace ∷ []) [] _ _ refl (directives_starts depth) (λ y. (behind x y).starts)))) where
      behind : (x : List NameText) (y : List Directive) → Goes (kind_view LeftBrace ∷ []) [] (perhaps_in_braces_at field_definition_at depth >>= λ z. place start >>= λ span. answer (make x y z span))
          (perhaps_in_braces_at field_definition_at (suc depth) >>= λ z. place start >>= λ span. answer (make x y z span))
      behind x y = goes_sequence (perhaps_fields_goes depth) refl (λ z. goes_sequence (goes_place start) refl (λ span. goes_answer _))

either_order : (a b c : Bool) → (a || b || c) ≡ (a || (b || c))
either_order true b c = refl
either_order false b c = refl

abbrev type_extension_views : List View
type_extension_views = directives_views ++ fields_views ++ fields_views ++ (directives_views ++ members_views ++ []) ++ (body_views ++ []) ++ (body_views ++ []) ++ []

abbrev pub extension_views : List View
extension_views = (body_views ++ []) ++ type_extension_views

-- the kinds of types
abbrev scalar_made : NameText → List Directive → SourceSpan → ScalarTypeDefinition
scalar_made name x span = record { description = None; name = name; directives = x; span = span }

scalar_added_goes : (depth start : ℕ) → Goes directives_views (keyword_word keyword.Scalar ∷ name_word ∷ directive_words) (scalar_added depth start) (scalar_added (suc depth) start)
unfolding scalar_added scalar_behind same_kind
scalar_added_goes depth start =
    same_goes _ _ _ _ (λ i. sequence_twice _ _ _ _ i) (λ i. sequence_twice _ _ _ _ i)
    (goes_sequence (goes_keyword keyword.Scalar refl) refl (λ word. goes_sequence goes_name refl (λ name.
    directives_part (scalar_made name) (λ x. is_filled x.directives) depth start (λ x span. refl))))

abbrev object_made : NameText → List NameText → List Directive → List FieldDefinition → SourceSpan → ObjectTypeDefinition
object_made name x y z span = record { description = None; name = name; interfaces = x; directives = y; fields = z; span = span }

object_added_goes : (depth start : ℕ) → Goes fields_views (keyword_word keyword.«Type» ∷ name_word ∷ directive_words) (object_added depth start) (object_added (suc depth) start)
unfolding object_added object_behind same_kind
object_added_goes depth start =
    same_goes _ _ _ _ (λ i. sequence_twice _ _ _ _ i) (λ i. sequence_twice _ _ _ _ i)
    (goes_sequence (goes_keyword keyword.«Type» refl) refl (λ word. goes_sequence goes_name refl (λ name.
    fields_part (object_made name) (λ x. is_filled x.interfaces || is_filled x.directives || is_filled x.fields) depth start (λ x y z span. either_order (is_filled x) (is_filled y) (is_filled z)))))

abbrev interface_made : NameText → List NameText → List Directive → List FieldDefinition → SourceSpan → InterfaceTypeDefinition
interface_made name x y z span = record { description = None; name = name; interfaces = x; directives = y; fields = z; span = span }

interface_added_goes : (depth start : ℕ) → Goes fields_views (keyword_word keyword.Interface ∷ name_word ∷ directive_words) (interface_added depth start) (interface_added (suc depth) start)
unfolding interface_added interface_behind same_kind
interface_added_goes depth start =
    same_goes _ _ _ _ (λ i. sequence_twice _ _ _ _ i) (λ i. sequence_twice _ _ _ _ i)
    (goes_sequence (goes_keyword keyword.Interface refl) refl (λ word. goes_sequence goes_name refl (λ name.
    fields_part (interface_made name) (λ x. is_filled x.interfaces || is_filled x.directives || is_filled x.fields) depth start (λ x y z span. either_order (is_filled x) (is_filled y) (is_filled z)))))

abbrev union_made : NameText → List Directive → List NameText → SourceSpan → UnionTypeDefinition
union_made name x y span = record { description = None; name = name; directives = x; members = y; span = span }

union_added_goes : (depth start : ℕ) →
    Goes (directives_views ++ members_views ++ []) (keyword_word keyword.Union ∷ name_word ∷ directive_words) (union_added depth start) (union_added (suc depth) start)
unfolding union_added union_behind same_kind
union_added_goes depth start =
    same_goes _ _ _ _ (λ i. sequence_twice _ _ _ _ i) (λ i. sequence_twice _ _ _ _ i)
    (goes_sequence (goes_keyword keyword.Union refl) refl (λ word. goes_sequence goes_name refl (λ name.
    others_part _ _ (union_made name) (λ x. is_filled x.directives || is_filled x.members) (λ depth. members_at) depth start (λ x y span. refl) (λ depth. members_goes) (λ depth. members_shows))))

abbrev enum_made : NameText → List Directive → List EnumValueDefinition → SourceSpan → EnumTypeDefinition
enum_made name x y span = record { description = None; name = name; directives = x; values = y; span = span }

enum_added_goes : (depth start : ℕ) → Goes (body_views ++ []) (keyword_word keyword.Enum ∷ name_word ∷ directive_words) (enum_added depth start) (enum_added (suc depth) start)
unfolding enum_added enum_behind same_kind
enum_added_goes depth start =
    same_goes _ _ _ _ (λ i. sequence_twice _ _ _ _ i) (λ i. sequence_twice _ _ _ _ i)
    (goes_sequence (goes_keyword keyword.Enum refl) refl (λ word. goes_sequence goes_name refl (λ name.
    others_part _ _ (enum_made name) (λ x. is_filled x.directives || is_filled x.values) (λ depth. perhaps_in_braces_at enum_value_definition_at depth) depth start (λ x y span. refl)
    (λ depth. perhaps_goes _ _ _ _ depth refl refl enum_value_goes) (λ depth. braces_shows enum_value_definition_at depth _ (in_braces_goes _ _ _ _ depth refl refl enum_value_goes)))))

abbrev input_object_made : NameText → List Directive → List InputValueDefinition → SourceSpan → InputObjectTypeDefinition
input_object_made name x y span = record { description = None; name = name; directives = x; fields = y; span = span }

input_object_added_goes : (depth start : ℕ) → Goes (body_views ++ []) (keyword_word keyword.Input ∷ name_word ∷ directive_words) (input_object_added depth start) (input_object_added (suc depth) start)
unfolding input_object_added input_object_behind same_kind
input_object_added_goes depth start =
    same_goes _ _ _ _ (λ i. sequence_twice _ _ _ _ i) (λ i. sequence_twice _ _ _ _ i)
    (goes_sequence (goes_keyword keyword.Input refl) refl (λ word. goes_sequence goes_name refl (λ name.
    others_part _ _ (input_object_made name) (λ x. is_filled x.directives || is_filled x.fields) (λ depth. perhaps_in_braces_at input_value_definition_at depth) depth start (λ x y span. refl)
    (λ depth. perhaps_goes _ _ _ _ depth refl refl input_value_goes) (λ depth. braces_shows input_value_definition_at depth _ (in_braces_goes _ _ _ _ depth refl refl input_value_goes)))))

type_extension_goes : (depth start : ℕ) → Goes type_extension_views (keyword_word keyword.Scalar ∷ name_word ∷ directive_words) (type_extension_behind depth start) (type_extension_behind (suc depth) start)
unfolding type_extension_behind same_kind
type_extension_goes depth start =
    goes_first (keyword_shown keyword.Scalar) refl refl (goes_sequence (scalar_added_goes depth start) refl (λ x. goes_answer _))
    (inner_choose (keyword_shown keyword.«Type») (moving refl (goes_sequence (object_added_goes depth start) refl (λ x. goes_answer _)))
    (inner_choose (keyword_shown keyword.Interface) (moving refl (goes_sequence (interface_added_goes depth start) refl (λ x. goes_answer _)))
    (inner_choose (keyword_shown keyword.Union) (moving refl (goes_sequence (union_added_goes depth start) refl (λ x. goes_answer _)))
    (inner_choose (keyword_shown keyword.Enum) (moving refl (goes_sequence (enum_added_goes depth start) refl (λ x. goes_answer _)))
    (inner_choose (keyword_shown keyword.Input) (moving refl (goes_sequence (input_object_added_goes depth start) refl (λ x. goes_answer _)))
    (inner_refuse [] true expected.Extension))))))

-- a schema
abbrev schema_made : List Directive → List RootOperationTypeDefinition → SourceSpan → SchemaDefinition
schema_made x y span = record { description = None; directives = x; root_operations = y; span = span }

abbrev adds_to_schema : SchemaDefinition → Bool
adds_to_schema x = is_filled x.directives || is_filled x.root_operations

schema_part : (depth start : ℕ) → Goes (body_views ++ []) directive_words
    (with_others schema_made (perhaps_in_braces_at root_operation_at) depth start >>= λ x. with_part (adds_to_schema x) x)
    (with_others schema_made (perhaps_in_braces_at root_operation_at) (suc depth) start >>= λ x. with_part (adds_to_schema x) x)
unfolding same_kind
schema_part depth start =
    others_part _ _ schema_made adds_to_schema (perhaps_in_braces_at root_operation_at) depth start (λ x y span. refl)
    (λ depth. perhaps_goes _ _ _ _ depth refl refl root_operation_goes) (λ depth. braces_shows root_operation_at depth _ (in_braces_goes _ _ _ _ depth refl refl root_operation_goes))

-- the place is taken, and then the parts are looked at
schema_same : (depth start : ℕ) (i : Input) →
    (directives_at true depth >>= λ x. perhaps_in_braces_at root_operation_at depth >>= λ y. place start >>= λ span. with_part (is_filled x || is_filled y) (schema_made x y span)) i ≡
    (with_others schema_made (perhaps_in_braces_at root_operation_at) depth start >>= λ x. with_part (adds_to_schema x) x) i
schema_same depth start i =
    sym (sequence_twice (directives_at true depth) (λ x. perhaps_in_braces_at root_operation_at depth) (λ x y. place start >>= λ span. answer (schema_made x y span)) (λ x. with_part (adds_to_schema x) x) i ∙
    sequence_same (directives_at true depth) _ _ i (λ x m. sequence_same (perhaps_in_braces_at root_operation_at depth) _ _ m (λ y n. placed_part start (schema_made x y) adds_to_schema n)))

schema_added_goes : (depth start : ℕ) → Goes (body_views ++ []) (keyword_word keyword.Schema ∷ directive_words) (schema_added depth start) (schema_added (suc depth) start)
unfolding schema_added same_kind
schema_added_goes depth start =
    goes_sequence (goes_keyword keyword.Schema refl) refl (λ word.
    same_goes _ _ _ _ (λ i. schema_same depth start i) (λ i. schema_same (suc depth) start i) (schema_part depth start))

extension_behind_goes : (depth start : ℕ) →
    Goes extension_views (keyword_word keyword.Scalar ∷ name_word ∷ directive_words) (extension_behind depth start) (extension_behind (suc depth) start)
unfolding extension_behind same_kind
extension_behind_goes depth start =
    goes_second (keyword_shown keyword.Schema) refl refl (moving refl (goes_sequence (schema_added_goes depth start) refl (λ x. goes_answer _)))
    (goes_sequence (type_extension_goes depth start) refl (λ x. goes_answer _))

pub extension_goes : (depth : ℕ) → Goes extension_views (keyword_word keyword.Extend ∷ keyword_word keyword.Scalar ∷ name_word ∷ directive_words) (extension_at depth) (extension_at (suc depth))
unfolding extension_at same_kind
extension_goes depth = goes_starting refl (λ start. goes_sequence (goes_keyword keyword.Extend refl) refl (λ extend. extension_behind_goes depth start))
