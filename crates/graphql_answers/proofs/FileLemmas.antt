-- The texts of the first files, and of one more.
use Rattle.std.proofs.Common.{◌≡◌, ◌∙◌, ◌<◌, ◌+◌, ℕ, zero, suc, List, [], ◌∷◌, ◌++◌, ap, arith, get_or, length, map, refl, sym, take}
use Rattle.graphql_report_formats.specs.NamedTexts.{Text, named_text}
use Rattle.graphql_report_formats.specs.declared.named_texts.NamedText.{NamedText}
use Rattle.graphql_answers.specs.Files.{file_text, texts_from}
use Rattle.graphql_answers.specs.declared.files.SchemaFile.{SchemaFile}

map_end : (xs : List NamedText) (x : NamedText) → map named_text (xs ++ x ∷ []) ≡ map named_text xs ++ named_text x ∷ []
map_end [] x = refl
map_end (y ∷ ys) x = ap (λ l. named_text y ∷ l) (map_end ys x)

texts_more : (files : List SchemaFile) (at i : ℕ) (d : SchemaFile) → i < length files →
    texts_from at (take (suc i) files) ≡ texts_from at (take i files) ++ file_text (at + i) (get_or files i d) ∷ []
texts_more [] at i d within = grind (arith, within)
texts_more (f ∷ fs) at zero d within = let same : at ≡ at + 0 = omega arith in ap (λ n. file_text n f ∷ []) same
texts_more (f ∷ fs) at (suc i) d within =
    let same : suc at + i ≡ at + suc i = omega arith in
    ap (λ l. file_text at f ∷ l) (texts_more fs (suc at) i d (omega (arith, within))) ∙
    ap (λ n. file_text at f ∷ (texts_from (suc at) (take i fs) ++ file_text n (get_or fs i d) ∷ [])) same

-- the text of the next file was added
pub one_more : (files : List SchemaFile) (i : ℕ) (d : SchemaFile) (first : Text) (old new : List NamedText) (text : NamedText) → i < length files →
    map named_text old ≡ first ∷ texts_from 0 (take i files) → named_text text ≡ file_text i (get_or files i d) → new ≡ old ++ text ∷ [] →
    map named_text new ≡ first ∷ texts_from 0 (take (i + 1) files)
one_more files i d first old new text within before this added =
    let next : suc i ≡ i + 1 = omega arith in
    let here : 0 + i ≡ i = omega arith in
    let more : texts_from 0 (take (suc i) files) ≡ texts_from 0 (take i files) ++ file_text i (get_or files i d) ∷ [] =
    texts_more files 0 i d within ∙ ap (λ n. texts_from 0 (take i files) ++ file_text n (get_or files i d) ∷ []) here in
    ap (map named_text) added ∙ map_end old text ∙ ap (λ l. l ++ named_text text ∷ []) before ∙
    ap (λ (t : Text). first ∷ (texts_from 0 (take i files) ++ t ∷ [])) this ∙
    ap (λ l. first ∷ l) (sym more) ∙ ap (λ n. first ∷ texts_from 0 (take n files)) next
