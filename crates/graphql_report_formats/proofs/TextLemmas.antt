-- Parts of texts, and of further texts.
use Rattle.std.proofs.Common.{◌≡◌, ◌∙◌, ◌==◌, List, [], ◌∷◌, ◌++◌, Bool, true, false, None, Option, Some, ap, refl, if◌then◌else◌}
use Rattle.std.specs.Option.{is_some, option_map}
use Rattle.graphql_nodes.specs.declared.spans.FileId.{FileId}
use Rattle.graphql_nodes.specs.declared.spans.SourceSpan.{SourceSpan}
use Rattle.graphql_report_formats.specs.NamedTexts.{Part, Text, part_at, part_of, text_in}

-- the first, or else the second
abbrev pub or_else : {X : Type 0} → Option X → Option X → Option X
or_else None second = second
or_else (Some x) second = Some x

either : (same : Bool) (text : Text) (first second both : Option Text) → both ≡ or_else first second →
    (if same then Some text else both) ≡ or_else (if same then Some text else first) second
either true text first second both is = refl
either false text first second both is = is

text_in_both : (first second : List Text) (id : FileId) → text_in (first ++ second) id ≡ or_else (text_in first id) (text_in second id)
text_in_both [] second id = refl
text_in_both (text ∷ texts) second id =
    either (text.file_id.0 == id.0) text (text_in texts id) (text_in second id) (text_in (texts ++ second) id) (text_in_both texts second id)

mapped : {X Y : Type 0} (f : X → Y) (first second : Option X) → option_map f (or_else first second) ≡ or_else (option_map f first) (option_map f second)
mapped f None second = refl
mapped f (Some x) second = refl

-- a part of some texts or further ones is that of the first, or else of the second
pub part_in_both : (first second : List Text) (span : Option SourceSpan) →
    part_at (first ++ second) span ≡ or_else (part_at first span) (part_at second span)
part_in_both first second None = refl
part_in_both first second (Some span) =
    ap (option_map (part_of span)) (text_in_both first second span.file_id) ∙ mapped (part_of span) (text_in first span.file_id) (text_in second span.file_id)

pub some_mapped : {X Y : Type 0} (f : X → Y) (x : Option X) → is_some x ≡ is_some (option_map f x)
some_mapped f None = refl
some_mapped f (Some x) = refl
