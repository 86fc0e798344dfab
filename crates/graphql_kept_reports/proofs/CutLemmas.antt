-- What is left out of the texts of a schema, rule by rule.
use Rattle.std.proofs.Common.{◌≡◌, ◌∙◌, ◌+◌, ◌<◌, ◌∷◌, ◌++◌, [], List, ap, append_assoc, get_or, length, refl, subst, sym, take, ⊎_elim, ℕ}
use Rattle.std.proofs.lemmas.Bool.{cases_Bool, or_left}
use Rattle.std.proofs.lemmas.List.{map-append, take_more}
use Rattle.std.proofs.lemmas.List.Folds.{list_any-append}
use Rattle.std.proofs.lemmas.Map.Text.{btree_set_updates_text}
use Rattle.std.specs.Prelude.{◌||◌, Bool, cond, false, is_some, map, true}
use Rattle.std.specs.BTreeSet.{BTreeSet, UpdatesBy, contains_text}
use Rattle.std.specs.Cmp.Lexicographic.{bytes_decides, slice_cmp}
use Rattle.std.specs.List.{list_any}
use Rattle.std.specs.Ordering.{nat_cmp}
use Rattle.std.specs.Str.{bytes_eq}
use Rattle.std.specs.String.{string_bytes, string_cmp}
use Rattle.std.specs.declared.alloc.Global.{Global}
use Rattle.std.specs.declared.string.String.{String}
use Rattle.graphql_building_reports.specs.declared.lists.BuildingReport.{BuildingReport}
use Rattle.graphql_building_reports.specs.declared.rules.BuildingRule.{BuildingRule}
use Rattle.graphql_kept_reports.specs.SchemaCuts.{AddsDoubts, AreDoubtsOf, cut_directive, cut_fields, cut_type, cuts_input, cuts_schema, is_named}
use Rattle.graphql_kept_reports.specs.declared.schema_doubts.SchemaDoubts.{SchemaDoubts}

pub or_false : (x : Bool) → x ≡ (x || false)
or_false true = refl
or_false false = refl

cond_or : (b x : Bool) → cond b true x ≡ (x || b)
cond_or true true = refl
cond_or true false = refl
cond_or false true = refl
cond_or false false = refl

-- one more that may be so
pub any_more : {X : Type 0} (p : X → Bool) (found : List X) (x : X) (old new : Bool) → old ≡ list_any p found → new ≡ (old || p x) → new ≡ list_any p (found ++ x ∷ [])
any_more p found x old new before more =
    more ∙ ap (λ b. b || p x) before ∙ ap (λ b. list_any p found || b) (or_false (p x)) ∙ sym (list_any-append p found (x ∷ []))

-- a set that has a name has it also
pub has_already : (names : BTreeSet (String Global)) (name text : List ℕ) → contains_text names name ≡ true → contains_text names text ≡ (contains_text names text || bytes_eq name text)
has_already names name text there =
    ⊎_elim
    (λ same. subst (λ t. contains_text names t ≡ (contains_text names t || bytes_eq name t)) ((bytes_decides name text).0 same) (there ∙ sym (or_left (contains_text names name) (bytes_eq name name) there)))
    (λ differ. or_false (contains_text names text) ∙ ap (λ b. contains_text names text || b) (sym differ))
    (cases_Bool (bytes_eq name text))

-- a set into which a name was put
pub has_inserted : (old new : BTreeSet (String Global)) (name text : List ℕ) → UpdatesBy string_cmp (λ k. slice_cmp nat_cmp name (string_bytes k)) old new true →
    contains_text new text ≡ (contains_text old text || bytes_eq name text)
has_inserted old new name text updates = btree_set_updates_text name old new true updates text ∙ cond_or (bytes_eq name text) (contains_text old text)

-- what one more rule says is in doubt, too
pub doubts_more : (found : List BuildingRule) (broken : BuildingRule) (old new : SchemaDoubts) → AreDoubtsOf found old → AddsDoubts broken old new → AreDoubtsOf (found ++ broken ∷ []) new
doubts_more found broken old new are adds = record {
  types = λ text. any_more (λ it. is_named text (cut_type it)) found broken (contains_text old.types text) (contains_text new.types text) (are.types text) (adds.types text);
  fields = λ text. any_more (λ it. is_named text (cut_fields it)) found broken (contains_text old.fields text) (contains_text new.fields text) (are.fields text) (adds.fields text);
  directives = λ text. any_more (λ it. is_named text (cut_directive it)) found broken (contains_text old.directives text) (contains_text new.directives text)
      (are.directives text) (adds.directives text);
  has_types = any_more (λ it. is_some (cut_type it)) found broken old.has_types new.has_types are.has_types adds.has_types;
  has_inputs = any_more cuts_input found broken old.has_inputs new.has_inputs are.has_inputs adds.has_inputs;
  has_schema = any_more cuts_schema found broken old.has_schema new.has_schema are.has_schema adds.has_schema;
}

-- the same of reports so far, and of one more
pub doubts_of_next : (found : List BuildingRule) (reports : List BuildingReport) (i : ℕ) (report : BuildingReport) (old new : SchemaDoubts) → i < length reports →
    report ≡ get_or reports i report → AreDoubtsOf (found ++ map (λ (it : BuildingReport). it.rule) (take i reports)) old → AddsDoubts report.rule old new →
    AreDoubtsOf (found ++ map (λ (it : BuildingReport). it.rule) (take (i + 1) reports)) new
doubts_of_next found reports i report old new within item are adds =
    let rule_of = λ (it : BuildingReport). it.rule in
    subst (λ l. AreDoubtsOf (found ++ map rule_of l) new) (sym (take_more reports i report within ∙ ap (λ it. take i reports ++ it ∷ []) (sym item)))
    (subst (λ l. AreDoubtsOf (found ++ l) new) (sym (map-append rule_of (take i reports) (report ∷ [])))
    (subst (λ l. AreDoubtsOf l new) (append_assoc found (map rule_of (take i reports)) (report.rule ∷ []))
    (doubts_more (found ++ map rule_of (take i reports)) report.rule old new are adds)))
