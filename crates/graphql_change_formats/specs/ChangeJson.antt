-- Changes as JSON: what the object says of documents, and of each change. Specification: 5 Validation.
use Rattle.std.specs.Prelude.{◌≡◌, ℕ, Bool, List, [], ◌∷◌, ◌++◌, Option, None, Some, OnOk, Result, codes, map, string_bytes}
use Rattle.std.specs.Borrow.{Bor}
use Rattle.std.specs.Option.{option_map}
use Rattle.json.specs.Token.{Token, begin_array, begin_object, boolean, end_array, end_object, key, string}
use Rattle.json.specs.Written.{Written}
use Rattle.graphql_report_formats.specs.JsonReports.{file, number_member, span}
use Rattle.graphql_report_formats.specs.NamedTexts.{Part, part_at, texts_of}
use Rattle.graphql_schema_comparison.specs.declared.comparison.Comparison.{Comparison}
use Rattle.graphql_change_formats.specs.ShownChanges.{level_name, reason_name}
use Rattle.graphql_change_formats.specs.declared.shown_changes.ComparedTexts.{ComparedTexts}
use Rattle.graphql_change_formats.specs.declared.shown_changes.ShownChange.{ShownChange}

-- a member that is a truth value
abbrev pub boolean_member : List ℕ → Bool → List Token
boolean_member name value = key name ∷ boolean value ∷ []

-- the same of one that may be missing
abbrev pub optional_boolean : List ℕ → Option Bool → List Token
optional_boolean name None = []
optional_boolean name (Some value) = boolean_member name value

-- the beginning of the object: its version, and whether the comparison keeps documents, and those with lone fields
abbrev pub comparison_begin : Comparison → List Token
comparison_begin c =
    begin_object ∷ (number_member (codes "version") 1 ++ (boolean_member (codes "keepsDocuments") c.keeps_documents ++
    boolean_member (codes "keepsLoneFields") c.keeps_lone_fields))

-- a member that is a text
abbrev pub string_member : List ℕ → List ℕ → List Token
string_member name text = key name ∷ string text ∷ []

-- the same of a text that may be missing
abbrev pub optional_member : List ℕ → Option (List ℕ) → List Token
optional_member name None = []
optional_member name (Some text) = string_member name text

-- what is said of a place: its file, line, column and bytes
abbrev pub place_members : Part → List Token
place_members at = file at.path ++ (number_member (codes "line") at.start.line ++ (number_member (codes "column") at.start.column ++ span (Some at)))

abbrev pub place_object : List ℕ → Part → List Token
place_object name at = key name ∷ begin_object ∷ (place_members at ++ (end_object ∷ []))

-- a member that is a place, if there is one
abbrev pub place_member : List ℕ → Option Part → List Token
place_member name None = []
place_member name (Some at) = place_object name at

-- what is said of a change before its message: its name, how grave it is, and what it breaks
abbrev pub change_head : ShownChange → List ℕ → List Token
change_head shown name =
    begin_object ∷ (string_member (codes "change") name ++ (string_member (codes "level") (level_name shown.level) ++
    optional_member (codes "reason") (reason_name shown.level)))

-- and after it: its places in the old and in the new schema, the document that shows it, and whether documents use what changes
abbrev pub change_end : ComparedTexts → ShownChange → List Token
change_end texts shown =
    place_member (codes "old") (part_at (texts_of texts.old) shown.change.now.old) ++ (place_member (codes "new") (part_at (texts_of texts.new) shown.change.now.new) ++
    (optional_member (codes "witness") (option_map string_bytes shown.witness) ++ (optional_boolean (codes "used") shown.used ++ (end_object ∷ []))))

-- a change as an object, with these words for its name and its message
abbrev pub change_object : ComparedTexts → ShownChange → List ℕ → List ℕ → List Token
change_object texts shown name message = change_head shown name ++ (string_member (codes "message") message ++ change_end texts shown)

-- the changes as objects, in order, each with words for its name and its message
pub data AreChanges (texts : ComparedTexts) : List ShownChange → List Token → Type 0 where
  none : AreChanges texts [] []
  one_more : {before : List ShownChange} {tokens : List Token} (shown : ShownChange) (name message : List ℕ) → AreChanges texts before tokens →
      AreChanges texts (before ++ shown ∷ []) (tokens ++ change_object texts shown name message)

-- a call that answers has appended tokens of which this holds; what stood before the writer began stays in any case
pub record AppendsSome {E : Type 0} (result : Result (Unit {0}) E) (old new : Written) (Are : List Token → Type 0) : Type 0 where
  pub before : new.before ≡ old.before
  pub appended : OnOk result ((more : List Token) × Are more × (new.tokens ≡ old.tokens ++ more))

abbrev pub IsChange : ComparedTexts → ShownChange → List Token → Type 0
IsChange texts shown tokens = (name : List ℕ) × (message : List ℕ) × (tokens ≡ change_object texts shown name message)

-- the array of the changes
abbrev pub IsArrayOfChanges : ComparedTexts → List ShownChange → List Token → Type 0
IsArrayOfChanges texts changes tokens =
    (objects : List Token) × AreChanges texts changes objects × (tokens ≡ key (codes "changes") ∷ begin_array ∷ (objects ++ (end_array ∷ [])))

-- how many documents there are, how many were not valid before, and the paths of those that broke
abbrev pub path_strings : List (Bor (List ℕ)) → List Token
path_strings paths = map (λ path. string path.now) paths

abbrev pub count_members : ℕ → ℕ → List Token
count_members documents invalid_before = number_member (codes "documents") documents ++ number_member (codes "invalidBefore") invalid_before

abbrev pub broken_member : List (Bor (List ℕ)) → List Token
broken_member broken = key (codes "broken") ∷ begin_array ∷ (path_strings broken ++ (end_array ∷ []))

abbrev pub operations_member : ℕ → ℕ → List (Bor (List ℕ)) → List Token
operations_member documents invalid_before broken =
    key (codes "operations") ∷ begin_object ∷ (count_members documents invalid_before ++ (broken_member broken ++ (end_object ∷ [])))

-- the end of the object
abbrev pub comparison_end : List Token
comparison_end = end_object ∷ []
