-- What a verdict of `Valid` says by itself.
use Rattle.std.proofs.Common.{◌≡◌, List, Ok, Err, Result}
use Rattle.std.specs.Prelude.{ℕ, IfOk}
use Rattle.graphql_parser.specs.declared.bounds.Bounds.{Bounds}
use Rattle.graphql_frontend.specs.Documents.{is_document, is_built}
use Rattle.graphql_frontend.specs.Schemas.{ReadsSchema}
use Rattle.graphql_frontend.specs.Schemas as schemas
use Rattle.graphql_frontend.specs.Texts.{AreTextsOf, IsTextOf}
use Rattle.graphql_frontend.specs.Verdicts.{IsValidText, Validates, ValidatesTexts, holds, rejected, schema_is_read, schema_is_rejected, lacks_introspection}
use Rattle.graphql_frontend.specs.declared.texts.SourceText.{SourceText}
use Rattle.graphql_frontend.specs.declared.verdicts.Verdict.{Verdict}
use Rattle.graphql_frontend.specs.declared.verdicts.Verdict.TheVariants.{Valid}

module _ (bounds : Bounds) (schema document : List ℕ) (sources : List SourceText) (source : SourceText) (are : AreTextsOf schema sources) (is : IsTextOf document source) where
  pub valid_says : (verdict : Verdict) → verdict ≡ Valid → Validates bounds sources source verdict → IsValidText bounds schema document
  valid_says verdict e (schema_is_rejected reads) = absurd (let no : ⊥ = cc in no)
  valid_says verdict e (lacks_introspection reads) = absurd (let no : ⊥ = cc in no)
  valid_says verdict e (schema_is_read accepted (schemas.are_documents trees are_trees (schemas.is_built said builds says accepted_is)) (holds (is_document tree is_tree (is_built built does its_says its_built (nests, reaches, rules))))) = record {
    sources = sources;
    source = source;
    trees = trees;
    tree = tree;
    said = said;
    accepted = accepted;
    built = built;
    are_texts = are;
    is_text = is;
    are_documents = are_trees;
    is_document = is_tree;
    says_schema = says;
    is_accepted = accepted_is;
    says_document = its_says;
    is_built = its_built;
    every_rule_holds = rules its_built;
  }
  valid_says verdict e (schema_is_read accepted reads (rejected wrong)) = absurd (let no : ⊥ = cc in no)

  pub valid_of_ok : {E : Type 0} (r : Result Verdict E) → IfOk r (Validates bounds sources source) → r ≡ Ok Valid → IsValidText bounds schema document
  valid_of_ok (Ok verdict) validates e = valid_says verdict (let same : verdict ≡ Valid = cc in same) validates
  valid_of_ok (Err error) validates e = absurd (let no : ⊥ = cc in no)

  pub texts_of_ok : {E : Type 0} (r : Result Verdict E) → IfOk r (Validates bounds sources source) → IfOk r (ValidatesTexts bounds schema document)
  texts_of_ok (Ok verdict) validates = record { sources = sources; source = source; are_texts = are; is_text = is; validates = validates }
  texts_of_ok (Err error) validates = tt
