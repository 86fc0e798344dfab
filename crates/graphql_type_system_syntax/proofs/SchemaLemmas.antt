-- Definitions and extensions of schemas are read by the grammar, both ways, and locally.
use Rattle.std.proofs.Common.{◌≡◌, ℕ, ◌<◌, true, false, List, length, Result, Ok, Option, None, refl, sym, subst, ◌∙◌, ap, arith}
use Rattle.graphql_nodes.specs.declared.spans.SourceSpan.{SourceSpan}
use Rattle.graphql_tokens.specs.declared.token.TokenKind.TheVariants.{Name, Colon, LeftBrace, RightBrace, At, LeftParenthesis}
use Rattle.graphql_trees.specs.declared.type_system.RootOperationTypeDefinition.{RootOperationTypeDefinition}
use Rattle.graphql_trees.specs.declared.type_system.SchemaDefinition.{SchemaDefinition}
use Rattle.graphql_trees.specs.declared.type_system.Description.{Description}
use Rattle.graphql_syntax.specs.declared.keywords.Keyword.TheVariants as keyword
use Rattle.graphql_syntax.specs.declared.production.More.TheVariants.{Until}
use Rattle.graphql_syntax.specs.declared.refusals.Refusal.{Refusal}
use Rattle.graphql_syntax.specs.Inputs.{same_kind, Input, next_passes, start_of, span_from, sees, TakesKeyword}
use Rattle.graphql_syntax.specs.Many.{Perhaps}
use Rattle.graphql_syntax.specs.Reading.{place, more_test}
use Rattle.graphql_syntax.proofs.DirectiveLemmas.{directives_sound, directives_read, directives_less, directives_local}
use Rattle.graphql_syntax.proofs.Locality.{Local, Moves, takes_less, local_sequence, local_answer, local_place, local_starting, kind_is_plain, keyword_is_plain}
use Rattle.graphql_syntax.proofs.TokenLocality.{local_take_one, local_name}
use Rattle.graphql_syntax.proofs.NextLemmas.{by_kind, passes_so, passes_not, Ends, not_parenthesis, not_at}
use Rattle.graphql_syntax.proofs.ReaderLemmas.{sequence_ok, sequence_read, starting_ok, starting_read, placed_is, placed_read, take_one_ok, take_one_read, name_ok, name_read}
use Rattle.graphql_syntax.proofs.RepetitionLemmas.{Item}
use Rattle.graphql_syntax.proofs.OperationTypeLemmas.{operation_type_sound, operation_type_read, operation_type_moves, operation_type_local, operation_type_name}
use Rattle.graphql_type_system_syntax.specs.Bodies.{InBraces, in_braces}
use Rattle.graphql_type_system_syntax.specs.InputValues.{IsDescription}
use Rattle.graphql_type_system_syntax.specs.Schemas.{IsRootOperation, IsSchemaDefinition, IsSchemaExtension}
use Rattle.graphql_type_system_syntax.specs.SchemaReaders.{root_operation_at, schema_behind, schema_added}
use Rattle.graphql_type_system_syntax.proofs.BraceLemmas.{in_braces_sound, in_braces_read, in_braces_moves, in_braces_local, perhaps_sound, perhaps_read, perhaps_less, perhaps_ends, perhaps_local, with_part_ok, with_part_read, with_part_local, addition_of, parts_of}
use Rattle.graphql_type_system_syntax.proofs.InputValueLemmas.{description_less, begins_described, described_item, reader_moves}

-- types of the roots of operations
root_sound : (depth : ℕ) (i : Input) (r : RootOperationTypeDefinition × Input) → root_operation_at depth i ≡ Ok r → IsRootOperation depth i r.0 r.1
unfolding root_operation_at
root_sound depth i r e =
    let (operation, eo, e1) = sequence_ok _ _ _ _ (starting_ok _ _ _ e) in
    let (colon, ec, e2) = sequence_ok _ _ _ _ e1 in
    let (name, en, e3) = sequence_ok _ _ _ _ e2 in
    subst (λ (q : RootOperationTypeDefinition × Input). IsRootOperation depth i q.0 q.1)
    (placed_is _ (λ span. record { operation_type = operation.0; name = name.0; span = span }) _ _ e3)
    (record {
      behind_operation = operation.1;
      behind_colon = colon.1;
      operation = operation_type_sound i operation eo;
      colon = take_one_ok _ _ _ _ ec;
      name = name_ok _ _ en;
      span = refl;
    })

root_read : (depth : ℕ) (i : Input) (x : RootOperationTypeDefinition) (j : Input) → IsRootOperation depth i x j → Ends j → root_operation_at depth i ≡ Ok (x, j)
unfolding root_operation_at
root_read depth i x j is ends =
    starting_read _ i _
    (sequence_read _ _ i x.operation_type is.behind_operation _ (operation_type_read _ _ _ is.operation)
    (sequence_read _ _ is.behind_operation tt is.behind_colon _ (take_one_read _ _ _ _ is.colon)
    (sequence_read _ _ is.behind_colon x.name j _ (name_read _ _ _ is.name)
    (placed_read _ make j ∙ ap (λ s. ok (make s)) (sym is.span))))) where
      make : SourceSpan → RootOperationTypeDefinition
      make span = record { operation_type = x.operation_type; name = x.name; span = span }

      ok : RootOperationTypeDefinition → Result (RootOperationTypeDefinition × Input) Refusal
      ok y = Ok (y, j)

root_begins : (depth : ℕ) (i : Input) (x : RootOperationTypeDefinition) (j : Input) → IsRootOperation depth i x j → next_passes (by_kind begins_described) i ≡ true
unfolding same_kind
root_begins depth i x j is = passes_so (λ k. same_kind k Name) begins_described refl i (operation_type_name _ _ _ is.operation)

root_moves : (depth : ℕ) (i : Input) (x : RootOperationTypeDefinition) (j : Input) → IsRootOperation depth i x j → length j.tokens < length i.tokens
root_moves depth i x j is = omega (arith, operation_type_moves _ _ _ is.operation, takes_less _ _ _ is.colon, takes_less _ _ _ is.name.takes)

root_local : (depth : ℕ) → Local depth (root_operation_at depth)
unfolding root_operation_at
root_local depth =
    local_starting depth _ (λ start.
    local_sequence depth _ _ (operation_type_local depth) (λ operation.
    local_sequence depth _ _ (local_take_one depth _ _ (kind_is_plain Colon refl refl)) (λ colon.
    local_sequence depth _ _ (local_name depth) (λ name.
    local_sequence depth _ _ (local_place depth start) (λ span. local_answer depth _)))))

root_reader_moves : (depth : ℕ) → Moves (root_operation_at depth)
root_reader_moves depth = reader_moves (IsRootOperation depth) _ (root_sound depth) (root_moves depth)

root_item : (depth : ℕ) → Item (IsRootOperation depth) (more_test (Until RightBrace)) (root_operation_at depth) Ends
unfolding same_kind
root_item depth = described_item (IsRootOperation depth) _ RightBrace refl (root_read depth) (root_begins depth) (root_moves depth)

-- the definition of a schema, behind its description
pub schema_sound : (depth : ℕ) (i m : Input) (description : Option Description) (r : SchemaDefinition × Input) → Perhaps IsDescription i description m →
    schema_behind depth (start_of i) description m ≡ Ok r → IsSchemaDefinition depth i r.0 r.1
unfolding schema_behind
schema_sound depth i m description r described e =
    let (word, ew, e1) = sequence_ok _ _ _ _ e in
    let (directives, es, e2) = sequence_ok _ _ _ _ e1 in
    let (roots, er, e3) = sequence_ok _ _ _ _ e2 in
    subst (λ (q : SchemaDefinition × Input). IsSchemaDefinition depth i q.0 q.1)
    (placed_is _ (λ span. record { description = description; directives = directives.0; root_operations = roots.0; span = span }) _ _ e3)
    (record {
      behind_description = m;
      behind_schema = word.1;
      behind_directives = directives.1;
      description = described;
      word = take_one_ok _ _ _ _ ew;
      directives = directives_sound true depth word.1 directives es;
      root_operations = in_braces_sound IsRootOperation _ root_sound depth directives.1 roots er;
      span = refl;
    })

-- directives are before braces
brace_free : (depth : ℕ) (i : Input) (xs : List RootOperationTypeDefinition) (j : Input) → InBraces IsRootOperation depth i xs j →
    (sees LeftParenthesis i ≡ false) × (sees At i ≡ false)
unfolding same_kind
brace_free _ _ _ _ (in_braces i m n j xs opens are closes) = (
  passes_not (λ k. same_kind k LeftBrace) (λ k. same_kind k LeftParenthesis) refl i opens.comes,
  passes_not (λ k. same_kind k LeftBrace) (λ k. same_kind k At) refl i opens.comes,
)

pub schema_read : (depth : ℕ) (i : Input) (x : SchemaDefinition) (j : Input) (is : IsSchemaDefinition depth i x j) →
    schema_behind depth (start_of i) x.description is.behind_description ≡ Ok (x, j)
unfolding schema_behind
schema_read depth i x j is =
    let free = brace_free depth _ _ _ is.root_operations in
    sequence_read _ _ is.behind_description tt is.behind_schema _ (take_one_read _ _ _ _ is.word)
    (sequence_read _ _ is.behind_schema x.directives is.behind_directives _ (directives_read true depth _ _ _ is.directives free.0 free.1)
    (sequence_read _ _ is.behind_directives x.root_operations j _ (in_braces_read IsRootOperation _ root_item depth _ _ _ is.root_operations)
    (placed_read _ make j ∙ ap (λ s. ok (make s)) (sym is.span)))) where
      make : SourceSpan → SchemaDefinition
      make span = record { description = x.description; directives = x.directives; root_operations = x.root_operations; span = span }

      ok : SchemaDefinition → Result (SchemaDefinition × Input) Refusal
      ok y = Ok (y, j)

pub schema_moves : (depth : ℕ) (i : Input) (x : SchemaDefinition) (j : Input) → IsSchemaDefinition depth i x j → length j.tokens < length i.tokens
schema_moves depth i x j is =
    omega (
      arith,
      description_less _ _ _ is.description,
      takes_less _ _ _ is.word,
      directives_less true depth _ _ _ is.directives,
      in_braces_moves IsRootOperation root_moves depth _ _ _ is.root_operations,
    )

pub schema_local : (depth start : ℕ) (description : Option Description) → Local depth (schema_behind depth start description)
unfolding schema_behind
schema_local depth start description =
    local_sequence depth _ _ (local_take_one depth _ _ (keyword_is_plain keyword.Schema)) (λ word.
    local_sequence depth _ _ (directives_local true depth) (λ directives.
    local_sequence depth _ _ (in_braces_local _ root_local root_reader_moves depth) (λ roots.
    local_sequence depth _ _ (local_place depth start) (λ span. local_answer depth _))))

-- an extension of a schema, behind `extend`
place_is : (start : ℕ) (m : Input) (r : SourceSpan × Input) → place start m ≡ Ok r → (span_from start m, m) ≡ r
unfolding place
place_is start m r e = cc

place_read : (start : ℕ) (m : Input) → place start m ≡ Ok (span_from start m, m)
unfolding place
place_read start m = refl

pub schema_added_sound : (depth : ℕ) (i m : Input) (r : SchemaDefinition × Input) → TakesKeyword keyword.Extend i m →
    schema_added depth (start_of i) m ≡ Ok r → IsSchemaExtension depth i r.0 r.1
unfolding schema_added
schema_added_sound depth i m r extends e =
    let (word, ew, e1) = sequence_ok _ _ _ _ e in
    let (directives, es, e2) = sequence_ok _ _ _ _ e1 in
    let (roots, er, e3) = sequence_ok _ _ _ _ e2 in
    let (span, ep, e4) = sequence_ok _ _ _ _ e3 in
    let (filled, same) = with_part_ok _ _ _ _ e4 in
    subst (λ (q : SchemaDefinition × Input). IsSchemaExtension depth i q.0 q.1) same
    (subst (λ (s : SourceSpan × Input). IsSchemaExtension depth i (record { description = None; directives = directives.0; root_operations = roots.0; span = s.0 }) s.1)
    (place_is _ _ _ ep)
    (record {
      behind_extend = m;
      behind_schema = word.1;
      extend = extends;
      word = take_one_ok _ _ _ _ ew;
      addition =
          addition_of IsRootOperation depth word.1 directives.1 directives.0 roots.0 roots.1
          (directives_sound true depth word.1 directives es) (perhaps_sound IsRootOperation _ root_sound depth directives.1 roots er) filled;
      description = refl;
      span = refl;
    }))

pub schema_added_read : (depth : ℕ) (i : Input) (x : SchemaDefinition) (j : Input) (is : IsSchemaExtension depth i x j) → Ends j →
    schema_added depth (start_of i) is.behind_extend ≡ Ok (x, j)
unfolding schema_added
schema_added_read depth i x j is ends =
    let parts = parts_of IsRootOperation depth _ _ _ _ is.addition in
    let before = perhaps_ends IsRootOperation depth _ _ _ parts.body ends in
    sequence_read _ _ is.behind_extend tt is.behind_schema _ (take_one_read _ _ _ _ is.word)
    (sequence_read _ _ is.behind_schema x.directives parts.behind_directives _
    (directives_read true depth _ _ _ parts.are (not_parenthesis _ before) (not_at _ before))
    (sequence_read _ _ parts.behind_directives x.root_operations j _ (perhaps_read IsRootOperation _ root_item depth _ _ _ parts.body)
    (sequence_read _ _ j (span_from (start_of i) j) j _ (place_read _ j)
    (with_part_read _ _ j parts.filled ∙ ap (λ d. ok (make d (span_from (start_of i) j))) (sym is.description) ∙ ap (λ s. ok (make x.description s)) (sym is.span))))) where
      make : Option Description → SourceSpan → SchemaDefinition
      make description span = record { description = description; directives = x.directives; root_operations = x.root_operations; span = span }

      ok : SchemaDefinition → Result (SchemaDefinition × Input) Refusal
      ok y = Ok (y, j)

pub schema_added_moves : (depth : ℕ) (i : Input) (x : SchemaDefinition) (j : Input) → IsSchemaExtension depth i x j → length j.tokens < length i.tokens
schema_added_moves depth i x j is =
    let parts = parts_of IsRootOperation depth _ _ _ _ is.addition in
    omega (
      arith,
      takes_less _ _ _ is.extend,
      takes_less _ _ _ is.word,
      directives_less true depth _ _ _ parts.are,
      perhaps_less IsRootOperation root_moves depth _ _ _ parts.body,
    )

pub schema_added_local : (depth start : ℕ) → Local depth (schema_added depth start)
unfolding schema_added
schema_added_local depth start =
    local_sequence depth _ _ (local_take_one depth _ _ (keyword_is_plain keyword.Schema)) (λ word.
    local_sequence depth _ _ (directives_local true depth) (λ directives.
    local_sequence depth _ _ (perhaps_local _ root_local root_reader_moves depth) (λ roots.
    local_sequence depth _ _ (local_place depth start) (λ span. with_part_local depth _ _))))
