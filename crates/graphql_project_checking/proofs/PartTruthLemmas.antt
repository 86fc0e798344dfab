-- The parts of documents that can be built, one definition and one document after another.
use Rattle.std.proofs.Common.{◌≡◌, ◌∙◌, List, [], ◌∷◌, ◌++◌, Option, None, Some, ap, refl, subst, sym}
use Rattle.std.specs.Prelude.{reverse}
use Rattle.std.specs.List.{AllZip}
use Rattle.std.proofs.lemmas.List.{append_assoc, append-nil, reverse-append}
use Rattle.graphql_diagnostics.specs.Reports.{Reports as Reporting}
use Rattle.graphql_documents.specs.declared.documents.executables.ExecutableDocument.{ExecutableDocument}
use Rattle.graphql_documents.specs.declared.documents.schemas.Schema.{Schema}
use Rattle.graphql_document_checking.specs.BuildingRules.{DefinitionBuilds, DocumentBuilds}
use Rattle.graphql_document_checking.specs.Documents.{DocumentSays}
use Rattle.graphql_trees.specs.declared.documents.Definition.{Definition}
use Rattle.graphql_trees.specs.declared.documents.Document.{Document}
use Rattle.graphql_project_checking.proofs.BuildingLemmas.{zip_last}
use Rattle.graphql_project_checking.specs.Truth.{KeepsThatBuild, PartsThatBuild, SayParts, SaysPart, has_no_part, keeps_next, keeps_none, leaves_out_next, next_part, no_next_part, no_parts, says_part}

-- where a rule holds, its check has put nothing into a list that was empty
pub silent_of : {Entry : Type 0} (H : Type 0) (Q : Entry → Type 0) (old new : List Entry) → Reporting H Q old new → old ≡ [] → H → new ≡ []
silent_of H Q old new r none holds = r.appended ∙ ap (λ l. l ++ r.added) none ∙ r.silent.1 holds

-- ==== one definition more, from the end

-- what is left, and what was taken
abbrev pub Takes : Schema → List Definition → List Definition → List Definition → Type 0
Takes s all left kept = (done : List Definition) × (all ≡ left ++ done) × KeepsThatBuild s done (reverse kept)

taken_more : (all old new done : List Definition) (d : Definition) → old ≡ new ++ d ∷ [] → all ≡ old ++ done → all ≡ new ++ d ∷ done
taken_more all old new done d popped so = so ∙ ap (λ l. l ++ done) popped ∙ append_assoc new (d ∷ []) done

pub takes_nothing : (s : Schema) (all kept : List Definition) → kept ≡ [] → Takes s all all kept
takes_nothing s all kept none = ([], sym (append-nil all), subst (λ l. KeepsThatBuild s [] (reverse l)) (sym none) keeps_none)

pub takes_one : (s : Schema) (all old new kept more : List Definition) (d : Definition) → old ≡ new ++ d ∷ [] → DefinitionBuilds (Some s) d → more ≡ kept ++ d ∷ [] →
    Takes s all old kept → Takes s all new more
takes_one s all old new kept more d popped builds pushed (done, so, keeps) = (
  d ∷ done,
  taken_more all old new done d popped so,
  subst (KeepsThatBuild s (d ∷ done)) (sym (ap reverse pushed ∙ reverse-append kept (d ∷ []))) (keeps_next builds keeps),
)

pub leaves_one : (s : Schema) (all old new kept : List Definition) (d : Definition) → old ≡ new ++ d ∷ [] → ¬ DefinitionBuilds (Some s) d → Takes s all old kept → Takes s all new kept
leaves_one s all old new kept d popped fails (done, so, keeps) = (d ∷ done, taken_more all old new done d popped so, leaves_out_next fails keeps)

pub takes_all : (s : Schema) (all left kept : List Definition) → left ≡ [] → Takes s all left kept → KeepsThatBuild s all (reverse kept)
takes_all s all left kept none (done, so, keeps) = subst (λ l. KeepsThatBuild s l (reverse kept)) (sym (so ∙ ap (λ l. l ++ done) none)) keeps

-- ==== one document more

pub say_nothing : (s : Schema) → SayParts s [] []
say_nothing s = ([], no_parts, tt)

part_behind : {s : Schema} {trees parts : List Document} (tree part : Document) → PartsThatBuild s trees parts → KeepsThatBuild s tree.definitions part.definitions →
    DocumentBuilds (Some s) part → PartsThatBuild s (trees ++ tree ∷ []) (parts ++ part ∷ [])
part_behind tree part no_parts keeps builds = next_part keeps builds no_parts
part_behind tree part (next_part first so rest) keeps builds = next_part first so (part_behind tree part rest keeps builds)
part_behind tree part (no_next_part first so rest) keeps builds = no_next_part first so (part_behind tree part rest keeps builds)

no_part_behind : {s : Schema} {trees parts : List Document} (tree part : Document) → PartsThatBuild s trees parts → KeepsThatBuild s tree.definitions part.definitions →
    ¬ DocumentBuilds (Some s) part → PartsThatBuild s (trees ++ tree ∷ []) parts
no_part_behind tree part no_parts keeps fails = no_next_part keeps fails no_parts
no_part_behind tree part (next_part first so rest) keeps fails = next_part first so (no_part_behind tree part rest keeps fails)
no_part_behind tree part (no_next_part first so rest) keeps fails = no_next_part first so (no_part_behind tree part rest keeps fails)

pub part_more : (s : Schema) (trees : List Document) (tree : Document) (files new : List ExecutableDocument) (file : ExecutableDocument) → SaysPart s tree (Some file) →
    new ≡ files ++ file ∷ [] → SayParts s trees files → SayParts s (trees ++ tree ∷ []) new
part_more s trees tree files new file (says_part part keeps builds says) pushed (parts, are, say) =
    (parts ++ part ∷ [], part_behind tree part are keeps builds, subst (AllZip (DocumentSays (Some s)) (parts ++ part ∷ [])) (sym pushed) (zip_last (DocumentSays (Some s)) parts files part file say says))

pub no_part_more : (s : Schema) (trees : List Document) (tree : Document) (files : List ExecutableDocument) → SaysPart s tree None → SayParts s trees files →
    SayParts s (trees ++ tree ∷ []) files
no_part_more s trees tree files (has_no_part part keeps fails) (parts, are, say) = (parts, no_part_behind tree part are keeps fails, say)

pub none_of : (o : Option ExecutableDocument) → ((x : ExecutableDocument) → ¬ (o ≡ Some x)) → o ≡ None
none_of None other = refl
none_of (Some x) other = absurd (other x refl)
