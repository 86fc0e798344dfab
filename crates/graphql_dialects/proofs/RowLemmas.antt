-- Rows, one after another.
use Rattle.std.proofs.Common.{◌≡◌, ◌∙◌, ℕ, ◌+◌, ◌<◌, ◌++◌, ◌∷◌, [], ◌||◌, Bool, true, false, not, cond, List, Bor, get_or, length, take, ap, refl}
use Rattle.std.specs.Prelude.{filter, flat_map}
use Rattle.std.specs.List.{list_any}
use Rattle.std.specs.Str.{bytes_eq}
use Rattle.std.proofs.lemmas.List.{append-nil, take_more}
use Rattle.std.proofs.lemmas.List.Elements.{filter-append}
use Rattle.std.proofs.lemmas.Grind.{flat_map-append}
use Rattle.graphql_nodes.specs.Names.{NameText}
use Rattle.graphql_repetitions.specs.References.{nows}
use Rattle.graphql_dialects.specs.Rows.{definitions_of, is_taken, words_of}
use Rattle.graphql_dialects.specs.declared.rows.Row.{Row}

-- a property of what references stand for
pub any_now : (p : NameText → Bool) (xs : List (Bor NameText)) → list_any p (nows xs) ≡ list_any (λ r. p r.now) xs
any_now p [] = refl
any_now p (x ∷ xs) = ap (λ others. p x.now || others) (any_now p xs)

-- whether a name is taken, by references to the names
pub taken_now : (name : List ℕ) (xs : List (Bor NameText)) → is_taken (nows xs) name ≡ list_any (λ r. bytes_eq r.now.text name) xs
taken_now name xs = any_now (λ it. bytes_eq it.text name) xs

-- stands for a row beyond the last
abbrev pub no_row : Row
no_row = record { head = record { ref_ptr = (0, 0); now = [] }; name = record { ref_ptr = (0, 0); now = [] }; tail = record { ref_ptr = (0, 0); now = [] } }

-- a row whose name is taken adds nothing, and another one its words
module _ (taken : List NameText) (rows : List Row) (i : ℕ) (d : Row) (within : i < length rows) where
  abbrev lacks : Row → Bool
  lacks r = not (is_taken taken r.name.now)

  pub row_taken : is_taken taken (get_or rows i d).name.now ≡ true → definitions_of taken (take (i + 1) rows) ≡ definitions_of taken (take i rows)
  row_taken t =
      let row = get_or rows i d in
      ap (definitions_of taken) (take_more rows i d within)
      ∙ ap (flat_map words_of)
      (filter-append lacks (take i rows) (row ∷ []) ∙ ap (λ b. filter lacks (take i rows) ++ cond (not b) (row ∷ []) []) t ∙ append-nil (filter lacks (take i rows)))

  pub row_lacking : is_taken taken (get_or rows i d).name.now ≡ false →
      definitions_of taken (take (i + 1) rows) ≡ definitions_of taken (take i rows) ++ words_of (get_or rows i d)
  row_lacking f =
      let row = get_or rows i d in
      ap (definitions_of taken) (take_more rows i d within)
      ∙ ap (flat_map words_of) (filter-append lacks (take i rows) (row ∷ []) ∙ ap (λ b. filter lacks (take i rows) ++ cond (not b) (row ∷ []) []) f)
      ∙ flat_map-append words_of (filter lacks (take i rows)) (row ∷ []) ∙ ap (λ l. definitions_of taken (take i rows) ++ l) (append-nil (words_of row))
