-- What one more document, or one more definition, adds to what is built.
use Rattle.std.proofs.Common.{◌≡◌, ◌∙◌, ℕ, ◌+◌, ◌<◌, List, [], ◌∷◌, ◌++◌, Option, None, Some, length, get_or, take, map, ap, refl, subst, sym}
use Rattle.std.specs.Prelude.{flat_map, option_to_list}
use Rattle.std.specs.List.{AllZip}
use Rattle.std.proofs.lemmas.Grind.{flat_map-append}
use Rattle.std.proofs.lemmas.List.{append_assoc, append-nil, map-append}
use Rattle.std.proofs.lemmas.List.Elements.{All-append, All-cons, All-nil, filter_map-append}
use Rattle.graphql_documents.proofs.ListLemmas.{more_is}
use Rattle.graphql_documents.specs.declared.documents.executables.ExecutableDocument.{ExecutableDocument}
use Rattle.graphql_documents.specs.declared.documents.schemas.Schema.{Schema}
use Rattle.graphql_document_checking.specs.BuildingRules.{DocumentBuilds}
use Rattle.graphql_document_checking.specs.Documents.{DocumentSays}
use Rattle.graphql_document_checking.specs.Trees.{as_fragment, fragments_in}
use Rattle.graphql_frontend.specs.declared.reports.Reports.{Reports}
use Rattle.graphql_nodes.specs.Names.{NameText}
use Rattle.graphql_projects.specs.OperationTrees.{fragments_among}
use Rattle.graphql_trees.specs.declared.documents.Definition.TheVariants as definition
use Rattle.graphql_trees.specs.declared.documents.Definition.{Definition}
use Rattle.graphql_trees.specs.declared.documents.Document.{Document}
use Rattle.graphql_trees.specs.declared.executable.FragmentDefinition.{FragmentDefinition}
use Rattle.graphql_project_checking.proofs.SilenceLemmas.{silent_then}
use Rattle.graphql_project_checking.specs.Silence.{BuildAll, BuildsTo, SilentOnlyIf}

-- ==== fragments

pub flat_more : {X Y : Type 0} (f : X → List Y) (xs : List X) (i : ℕ) (x : X) → i < length xs → x ≡ get_or xs i x →
    flat_map f (take (i + 1) xs) ≡ flat_map f (take i xs) ++ f x
flat_more f xs i x within is =
    ap (flat_map f) (more_is xs i x within is) ∙ flat_map-append f (take i xs) (x ∷ []) ∙ ap (λ l. flat_map f (take i xs) ++ l) (append-nil (f x))

pub fragments_more : (ds : List Definition) (i : ℕ) (d : Definition) → i < length ds → d ≡ get_or ds i d →
    fragments_in (take (i + 1) ds) ≡ fragments_in (take i ds) ++ fragments_in (d ∷ [])
fragments_more ds i d within is = ap fragments_in (more_is ds i d within is) ∙ filter_map-append as_fragment (take i ds) (d ∷ [])

pub no_fragment : (d : Definition) → ((x : FragmentDefinition) → ¬ (d ≡ definition.Fragment x)) → fragments_in (d ∷ []) ≡ []
no_fragment (definition.Fragment x) other = absurd (other x refl)
no_fragment (_) other = refl

pub one_fragment : (d : Definition) (x : FragmentDefinition) → d ≡ definition.Fragment x → fragments_in (d ∷ []) ≡ (x.name, x) ∷ []
one_fragment d x is = ap (λ d. fragments_in (d ∷ [])) is

abbrev pub name_of : NameText × FragmentDefinition → NameText
name_of p = p.0

-- ==== names

-- what is named further
pub names_then : (xs old mid : List NameText) (new added both : List NameText) → mid ≡ old ++ xs → new ≡ mid ++ added → both ≡ xs ++ added → new ≡ old ++ both
names_then xs old mid new added both first rest is =
    rest ∙ ap (λ l. l ++ added) first ∙ append_assoc old xs added ∙ ap (λ l. old ++ l) (sym is)

pub names_of_file : (documents : List Document) (i : ℕ) (document : Document) → i < length documents → document ≡ get_or documents i document →
    map name_of (fragments_among (take (i + 1) documents)) ≡ map name_of (fragments_among (take i documents)) ++ map name_of (fragments_in document.definitions)
names_of_file documents i document within is =
    ap (map name_of) (flat_more (λ (t : Document). fragments_in t.definitions) documents i document within is) ∙
    map-append name_of (fragments_among (take i documents)) (fragments_in document.definitions)

pub names_of_definition : (ds : List Definition) (i : ℕ) (d : Definition) → i < length ds → d ≡ get_or ds i d →
    map name_of (fragments_in (take (i + 1) ds)) ≡ map name_of (fragments_in (take i ds)) ++ map name_of (fragments_in (d ∷ []))
names_of_definition ds i d within is =
    ap (map name_of) (fragments_more ds i d within is) ∙ map-append name_of (fragments_in (take i ds)) (fragments_in (d ∷ []))

pub one_name : (d : Definition) (x : FragmentDefinition) → d ≡ definition.Fragment x → map name_of (fragments_in (d ∷ [])) ≡ x.name ∷ []
one_name d x is = ap (λ d. map name_of (fragments_in (d ∷ []))) is

-- ==== files

pub zip_last : {X Y : Type 0} (R : X → Y → Type 0) (xs : List X) (ys : List Y) (x : X) (y : Y) → AllZip R xs ys → R x y → AllZip R (xs ++ x ∷ []) (ys ++ y ∷ [])
zip_last R [] [] x y zip r = (r, tt)
zip_last R [] (v ∷ vs) x y zip r = absurd zip
zip_last R (u ∷ us) [] x y zip r = absurd zip
zip_last R (u ∷ us) (v ∷ vs) x y zip r = (zip.0, zip_last R us vs x y zip.1 r)

pub build_none : (s : Schema) → BuildAll s [] []
build_none s = (All-nil (DocumentBuilds (Some s)), tt)

one_builds : (s : Schema) (trees : List Document) (files : List ExecutableDocument) (tree : Document) (file : Option ExecutableDocument) →
    BuildAll s trees files → BuildsTo s tree file → BuildAll s (trees ++ tree ∷ []) (files ++ option_to_list file)
one_builds s trees files tree None all builds = absurd builds
one_builds s trees files tree (Some file) all builds = (
  All-append (DocumentBuilds (Some s)) trees (tree ∷ []) all.0 (All-cons (DocumentBuilds (Some s)) tree [] builds.0 (All-nil (DocumentBuilds (Some s)))),
  zip_last (DocumentSays (Some s)) trees files tree file all.1 builds.1,
)

pub build_more : (s : Schema) (trees : List Document) (i : ℕ) (tree : Document) (files new_files : List ExecutableDocument) (file : Option ExecutableDocument) (old mid new : List Reports) →
    i < length trees → tree ≡ get_or trees i tree → new_files ≡ files ++ option_to_list file → SilentOnlyIf old mid (BuildAll s (take i trees) files) →
    SilentOnlyIf mid new (BuildsTo s tree file) → SilentOnlyIf old new (BuildAll s (take (i + 1) trees) new_files)
build_more s trees i tree files new_files file old mid new within is grown first rest =
    silent_then old mid new (BuildAll s (take i trees) files) (BuildsTo s tree file) (BuildAll s (take (i + 1) trees) new_files)
    (λ all builds. subst (λ l. BuildAll s l new_files) (sym (more_is trees i tree within is))
    (subst (BuildAll s (take i trees ++ tree ∷ [])) (sym grown) (one_builds s (take i trees) files tree file all builds))) first rest
