-- What the grammar has as a selection set is read, as that and no other.
use Rattle.std.proofs.Common.{◌≡◌, ℕ, zero, suc, ◌<◌, ◌≤◌, Bool, true, false, not, ◌||◌, List, ◌∷◌, length, Option, None, Some, Result, Ok, refl, sym, ◌∙◌, ap, arith}
use Rattle.graphql_nodes.specs.Names.{NameText}
use Rattle.graphql_tokens.specs.declared.token.TokenKind.{TokenKind}
use Rattle.graphql_tokens.specs.declared.token.TokenKind.TheVariants.{Name, Colon, LeftBrace, RightBrace, LeftParenthesis, Spread}
use Rattle.graphql_trees.specs.declared.directives.Argument.{Argument}
use Rattle.graphql_trees.specs.declared.directives.Directive.{Directive}
use Rattle.graphql_trees.specs.declared.executable.Field.{roll-Field}
use Rattle.graphql_trees.specs.declared.executable.FragmentSpread.{FragmentSpread}
use Rattle.graphql_trees.specs.declared.executable.Selection.{Selection}
use Rattle.graphql_trees.specs.declared.executable.Selection.TheVariants as tree
use Rattle.graphql_trees.specs.declared.executable.SelectionSet.{SelectionSet}
use Rattle.graphql_syntax.specs.declared.keywords.Keyword.TheVariants as keyword
use Rattle.graphql_syntax.specs.declared.production.More.TheVariants.{Until}
use Rattle.graphql_syntax.specs.declared.refusals.Refusal.{Refusal}
use Rattle.graphql_syntax.specs.Directives.{AreArguments, AreDirectives}
use Rattle.graphql_syntax.specs.Inputs.{same_kind, Input, sees, next_passes, start_of, span_from, between, Takes, IsName}
use Rattle.graphql_syntax.specs.Many.{Many, nothing, more, some, Perhaps, absent, present, PerhapsList}
use Rattle.graphql_syntax.specs.Reading.{Reader, more_test}
use Rattle.graphql_syntax.proofs.Locality.{takes_less}
use Rattle.graphql_syntax.proofs.NextLemmas.{brace_ends, brace_no_name, closing_brace_ends, closing_stops, by_kind, passes_so, passes_not, no_name_no_keyword, Ends, not_parenthesis, not_colon, not_at}
use Rattle.graphql_syntax.proofs.ReaderLemmas.{sequence_read, choose_first, choose_second, starting_read, placed_read, answer_read, take_one_read, name_read}
use Rattle.graphql_syntax.proofs.RepetitionLemmas.{Item, some_read}
use Rattle.graphql_executable_syntax.specs.Selections.{IsAlias, IsFragmentName, IsTypeCondition, IsFragmentSpread, IsSelectionSet, in_braces, AreSelections, no_selections, more_selections, PerhapsSelectionSet, no_selection_set, some_selection_set, IsSelection, field, fragment_spread, inline_fragment}
use Rattle.graphql_executable_syntax.specs.SelectionReaders.{fragment_name_at, type_condition_at, fragment_spread_behind, inline_fragment_behind, spread_with, perhaps_set_with, field_behind, field_with, selection_with, selection_set_with, selection_set_at, selection_at}
use Rattle.graphql_syntax.proofs.DirectiveLemmas.{arguments_apart, directives_apart, arguments_read, directives_read, arguments_less, directives_less}

-- where a field may end: with what comes next none goes on
pub record FieldEnds (i : Input) : Type 0 where
  pub ends : Ends i
  pub no_set : sees LeftBrace i ≡ false

pub set_begins : (depth : ℕ) (i : Input) (x : SelectionSet) (j : Input) → IsSelectionSet depth i x j → sees LeftBrace i ≡ true
set_begins _ _ _ _ (in_braces {depth} i m n k j x xs opens is are closes) = opens.comes

perhaps_set_ends : (depth : ℕ) (i : Input) (x : Option SelectionSet) (j : Input) → PerhapsSelectionSet depth i x j → Ends j → Ends i
perhaps_set_ends depth _ _ _ (no_selection_set i) s = s
perhaps_set_ends depth _ _ _ (some_selection_set i j x is) s = brace_ends i (set_begins depth i x j is)

no_parenthesis_before : (constant : Bool) (depth : ℕ) (i : Input) (xs : List Directive) (j : Input) → AreDirectives constant depth i xs j → Ends j → sees LeftParenthesis i ≡ false
unfolding same_kind
no_parenthesis_before constant depth i xs j are s = directives_apart constant depth (λ k. same_kind k LeftParenthesis) refl i xs j are (not_parenthesis j s)

no_colon_before : (constant : Bool) (depth : ℕ) (i : Input) (xs : List Directive) (j : Input) → AreDirectives constant depth i xs j → Ends j → sees Colon i ≡ false
unfolding same_kind
no_colon_before constant depth i xs j are s = directives_apart constant depth (λ k. same_kind k Colon) refl i xs j are (not_colon j s)

no_colon_at : (constant : Bool) (depth : ℕ) (i : Input) (xs : List Argument) (j : Input) → PerhapsList (AreArguments constant depth) i xs j → sees Colon j ≡ false → sees Colon i ≡ false
unfolding same_kind
no_colon_at constant depth i xs j are s = arguments_apart constant depth (λ k. same_kind k Colon) refl i xs j are s

no_name_before : (constant : Bool) (depth : ℕ) (i : Input) (xs : List Directive) (j : Input) → AreDirectives constant depth i xs j → sees Name j ≡ false → sees Name i ≡ false
unfolding same_kind
no_name_before constant depth i xs j are s = directives_apart constant depth (λ k. same_kind k Name) refl i xs j are s

name_no_spread : (i : Input) → sees Name i ≡ true → sees Spread i ≡ false
unfolding same_kind
name_no_spread i s = passes_not (λ k. same_kind k Name) (λ k. same_kind k Spread) refl i s

-- what a selection begins with
abbrev pub begins_selection : TokenKind → Bool
begins_selection k = same_kind k Name || same_kind k Spread

name_begins : (i : Input) → sees Name i ≡ true → next_passes (by_kind begins_selection) i ≡ true
unfolding same_kind
name_begins i s = passes_so (λ k. same_kind k Name) begins_selection refl i s

spread_begins : (i : Input) → sees Spread i ≡ true → next_passes (by_kind begins_selection) i ≡ true
unfolding same_kind
spread_begins i s = passes_so (λ k. same_kind k Spread) begins_selection refl i s

field_name_comes : (i : Input) (alias : Option NameText) (m : Input) (name : NameText) (n : Input) → Perhaps IsAlias i alias m → IsName m name n → sees Name i ≡ true
field_name_comes _ _ _ name n (absent i) is = is.takes.comes
field_name_comes _ _ _ name n (present i m alias aliased) is = aliased.name.takes.comes

pub selection_begins : (depth : ℕ) (i : Input) (x : Selection) (j : Input) → IsSelection depth i x j → next_passes (by_kind begins_selection) i ≡ true
selection_begins depth _ _ _ (field i m n k l j alias name arguments directives selection_set aliased named ar ds set) =
    name_begins i (field_name_comes i alias m name n aliased named)
selection_begins depth _ _ _ (fragment_spread i j x is) = spread_begins i is.dots.comes
selection_begins depth _ _ _ (inline_fragment i m n k j type_condition directives selection_set dots conditioned ds set) = spread_begins i dots.comes

-- a field may end before a selection and before a closing brace
begins_ends : (i : Input) → next_passes (by_kind begins_selection) i ≡ true → FieldEnds i
unfolding same_kind
begins_ends i s = record { ends = passes_not begins_selection _ refl i s; no_set = passes_not begins_selection (λ k. same_kind k LeftBrace) refl i s }

closing_ends : (i : Input) → sees RightBrace i ≡ true → FieldEnds i
unfolding same_kind
closing_ends i s = record {
  ends = closing_brace_ends i s;
  no_set = passes_not (λ k. same_kind k RightBrace) (λ k. same_kind k LeftBrace) refl i s;
}

begins_goes_on : (i : Input) → next_passes (by_kind begins_selection) i ≡ true → next_passes (more_test (Until RightBrace)) i ≡ true
unfolding same_kind
begins_goes_on i s = passes_so begins_selection (λ k. not (same_kind k RightBrace)) refl i s

-- fewer tokens are left
abbrev pub SetMoves : ℕ → Type 0
SetMoves depth = (i : Input) (x : SelectionSet) (j : Input) → IsSelectionSet depth i x j → length j.tokens < length i.tokens

alias_less : (i : Input) (alias : Option NameText) (m : Input) → Perhaps IsAlias i alias m → length m.tokens ≤ length i.tokens
alias_less _ _ _ (absent i) = omega arith
alias_less _ _ _ (present i m alias is) = omega (arith, takes_less _ i is.behind_name is.name.takes, takes_less _ is.behind_name m is.colon)

condition_less : (i : Input) (condition : Option NameText) (m : Input) → Perhaps IsTypeCondition i condition m → length m.tokens ≤ length i.tokens
condition_less _ _ _ (absent i) = omega arith
condition_less _ _ _ (present i m condition is) = omega (arith, takes_less _ i is.behind_on is.on, takes_less _ is.behind_on m is.named_type.takes)

perhaps_set_less : (depth : ℕ) → SetMoves depth → (i : Input) (x : Option SelectionSet) (j : Input) → PerhapsSelectionSet depth i x j → length j.tokens ≤ length i.tokens
perhaps_set_less depth moves _ _ _ (no_selection_set i) = omega arith
perhaps_set_less depth moves _ _ _ (some_selection_set i j x is) = omega (arith, moves i x j is)

selection_with_moves : (depth : ℕ) → SetMoves depth → (i : Input) (x : Selection) (j : Input) → IsSelection depth i x j → length j.tokens < length i.tokens
selection_with_moves depth moves _ _ _ (field i m n k l j alias name arguments directives selection_set aliased named ar ds set) =
    omega (
      arith,
      alias_less i alias m aliased,
      takes_less _ m n named.takes,
      arguments_less false depth n arguments k ar,
      directives_less false depth k directives l ds,
      perhaps_set_less depth moves l selection_set j set,
    )
selection_with_moves depth moves _ _ _ (fragment_spread i j x is) =
    omega (
      arith,
      takes_less _ i is.behind_dots is.dots,
      takes_less _ is.behind_dots is.behind_name is.name.is_name.takes,
      directives_less false depth is.behind_name x.directives j is.directives,
    )
selection_with_moves depth moves _ _ _ (inline_fragment i m n k j condition directives selection_set dots conditioned ds set) =
    omega (arith, takes_less _ i m dots, condition_less m condition n conditioned, directives_less false depth n directives k ds, moves k selection_set j set)

selections_less : (depth : ℕ) → ((i : Input) (x : Selection) (j : Input) → IsSelection depth i x j → length j.tokens < length i.tokens) →
    (i : Input) (xs : List Selection) (j : Input) → AreSelections depth i xs j → length j.tokens ≤ length i.tokens
selections_less depth moves _ _ _ (no_selections i) = omega arith
selections_less depth moves _ _ _ (more_selections i m j x xs is are) = omega (arith, moves i x m is, selections_less depth moves m xs j are)

set_moves_behind : (depth : ℕ) → ((i : Input) (x : Selection) (j : Input) → IsSelection depth i x j → length j.tokens < length i.tokens) → SetMoves (suc depth)
set_moves_behind depth moves _ _ _ (in_braces i m n k j x xs opens is are closes) =
    omega (arith, takes_less _ i m opens, moves m x n is, selections_less depth moves n xs k are, takes_less _ k j closes)

no_set_at_zero : (depth : ℕ) (i : Input) (x : SelectionSet) (j : Input) → IsSelectionSet depth i x j → 0 < depth
no_set_at_zero _ _ _ _ (in_braces {depth} i m n k j x xs opens is are closes) = omega arith

pub selection_set_moves : (depth : ℕ) → SetMoves depth
selection_set_moves zero i x j is = absurd (omega (arith, no_set_at_zero 0 i x j is))
selection_set_moves (suc depth) i x j is = set_moves_behind depth (selection_with_moves depth (selection_set_moves depth)) i x j is

pub selection_moves : (depth : ℕ) (i : Input) (x : Selection) (j : Input) → IsSelection depth i x j → length j.tokens < length i.tokens
selection_moves depth = selection_with_moves depth (selection_set_moves depth)

-- the parts
pub fragment_name_read : (i : Input) (name : NameText) (j : Input) → IsFragmentName i name j → fragment_name_at i ≡ Ok (name, j)
unfolding fragment_name_at
fragment_name_read i name j is = choose_second _ _ _ i is.not_on ∙ name_read i name j is.is_name

pub type_condition_read : (i : Input) (name : NameText) (j : Input) → IsTypeCondition i name j → type_condition_at i ≡ Ok (name, j)
unfolding type_condition_at
type_condition_read i name j is =
    sequence_read _ _ i tt is.behind_on _ (take_one_read _ _ i is.behind_on is.on)
    (sequence_read _ _ is.behind_on name j _ (name_read is.behind_on name j is.named_type) (answer_read name j))

abbrev pub SetRead : ℕ → Reader SelectionSet → Type 0
SetRead depth set = (i : Input) (x : SelectionSet) (j : Input) → IsSelectionSet depth i x j → set i ≡ Ok (x, j)

perhaps_set_read : (depth : ℕ) (set : Reader SelectionSet) → SetRead depth set → (i : Input) (x : Option SelectionSet) (j : Input) →
    PerhapsSelectionSet depth i x j → sees LeftBrace j ≡ false → perhaps_set_with set i ≡ Ok (x, j)
unfolding perhaps_set_with
perhaps_set_read depth set reads _ _ _ (no_selection_set i) s = choose_second _ _ _ i s ∙ answer_read None i
perhaps_set_read depth set reads _ _ _ (some_selection_set i j x is) s =
    choose_first _ _ _ i (set_begins depth i x j is) ∙ sequence_read _ _ i x j _ (reads i x j is) (answer_read (Some x) j)

field_behind_read : (depth : ℕ) (set : Reader SelectionSet) → SetRead depth set → (start : ℕ) (alias : Option NameText) (name : NameText)
    (n k l j : Input) (arguments : List Argument) (directives : List Directive) (selection_set : Option SelectionSet) →
    PerhapsList (AreArguments false depth) n arguments k → AreDirectives false depth k directives l → PerhapsSelectionSet depth l selection_set j → FieldEnds j →
    field_behind depth set start alias name n ≡ Ok (
      tree.Field (roll-Field (record {
        alias = alias;
        name = name;
        arguments = arguments;
        directives = directives;
        selection_set = selection_set;
        span = span_from start j;
      })),
      j,
    )
unfolding field_behind
field_behind_read depth set reads start alias name n k l j arguments directives selection_set ar ds ps ends =
    let behind = perhaps_set_ends depth l selection_set j ps ends.ends in
    sequence_read _ _ n arguments k _ (arguments_read false depth n arguments k ar (no_parenthesis_before false depth k directives l ds behind))
    (sequence_read _ _ k directives l _ (directives_read false depth k directives l ds (not_parenthesis l behind) (not_at l behind))
    (sequence_read _ _ l selection_set j _ (perhaps_set_read depth set reads l selection_set j ps ends.no_set)
    (placed_read start (λ span. tree.Field (roll-Field (record {
      alias = alias;
      name = name;
      arguments = arguments;
      directives = directives;
      selection_set = selection_set;
      span = span;
    }))) j)))

field_read : (depth : ℕ) (set : Reader SelectionSet) → SetRead depth set → (i m n k l j : Input) (alias : Option NameText) (name : NameText)
    (arguments : List Argument) (directives : List Directive) (selection_set : Option SelectionSet) →
    Perhaps IsAlias i alias m → IsName m name n → PerhapsList (AreArguments false depth) n arguments k → AreDirectives false depth k directives l →
    PerhapsSelectionSet depth l selection_set j → FieldEnds j →
    field_with depth set i ≡ Ok (
      tree.Field (roll-Field (record {
        alias = alias;
        name = name;
        arguments = arguments;
        directives = directives;
        selection_set = selection_set;
        span = between i j;
      })),
      j,
    )
unfolding field_with
field_read depth set reads _ _ n k l j _ name arguments directives selection_set (absent i) named ar ds ps ends =
    let behind = perhaps_set_ends depth l selection_set j ps ends.ends in
    let no_colon = no_colon_at false depth n arguments k ar (no_colon_before false depth k directives l ds behind) in
    starting_read _ i _ (sequence_read _ _ i name n _ (name_read i name n named)
    (choose_second _ _ _ n no_colon ∙ field_behind_read depth set reads (start_of i) None name n k l j arguments directives selection_set ar ds ps ends))
field_read depth set reads _ _ n k l j _ name arguments directives selection_set (present i m alias aliased) named ar ds ps ends =
    let a = aliased.behind_name in
    starting_read _ i _ (sequence_read _ _ i alias a _ (name_read i alias a aliased.name)
    (choose_first _ _ _ a aliased.colon.comes ∙
    sequence_read _ _ a tt m _ (take_one_read _ _ a m aliased.colon)
    (sequence_read _ _ m name n _ (name_read m name n named)
    (field_behind_read depth set reads (start_of i) (Some alias) name n k l j arguments directives selection_set ar ds ps ends))))

inline_read : (depth : ℕ) (set : Reader SelectionSet) → SetRead depth set → (start : ℕ) (condition : Option NameText) (n k j : Input)
    (directives : List Directive) (selection_set : SelectionSet) → AreDirectives false depth n directives k → IsSelectionSet depth k selection_set j →
    inline_fragment_behind depth set start condition n ≡ Ok (
      tree.InlineFragment (record {
        type_condition = condition;
        directives = directives;
        selection_set = selection_set;
        span = span_from start j;
      }),
      j,
    )
unfolding inline_fragment_behind
inline_read depth set reads start condition n k j directives selection_set ds is =
    let behind = brace_ends k (set_begins depth k selection_set j is) in
    sequence_read _ _ n directives k _ (directives_read false depth n directives k ds (not_parenthesis k behind) (not_at k behind))
    (sequence_read _ _ k selection_set j _ (reads k selection_set j is)
    (placed_read start (λ span. tree.InlineFragment (record { type_condition = condition; directives = directives; selection_set = selection_set; span = span })) j))

inline_spread_read : (depth : ℕ) (set : Reader SelectionSet) → SetRead depth set → (i m n k j : Input) (condition : Option NameText)
    (directives : List Directive) (selection_set : SelectionSet) → Takes Spread i m → Perhaps IsTypeCondition m condition n → AreDirectives false depth n directives k →
    IsSelectionSet depth k selection_set j →
    spread_with depth set i ≡ Ok (
      tree.InlineFragment (record {
        type_condition = condition;
        directives = directives;
        selection_set = selection_set;
        span = between i j;
      }),
      j,
    )
unfolding spread_with
inline_spread_read depth set reads i _ _ k j _ directives selection_set dots (absent m) ds is =
    let no_name = no_name_before false depth m directives k ds (brace_no_name k (set_begins depth k selection_set j is)) in
    starting_read _ i _ (sequence_read _ _ i tt m _ (take_one_read _ _ i m dots)
    (choose_second _ _ _ m (no_name_no_keyword keyword.On m no_name) ∙ choose_second _ _ _ m no_name ∙
    inline_read depth set reads (start_of i) None m k j directives selection_set ds is))
inline_spread_read depth set reads i _ _ k j _ directives selection_set dots (present m n condition conditioned) ds is =
    starting_read _ i _ (sequence_read _ _ i tt m _ (take_one_read _ _ i m dots)
    (choose_first _ _ _ m conditioned.on.comes ∙
    sequence_read _ _ m condition n _ (type_condition_read m condition n conditioned)
    (inline_read depth set reads (start_of i) (Some condition) n k j directives selection_set ds is)))

spread_read : (depth : ℕ) (set : Reader SelectionSet) (i : Input) (x : FragmentSpread) (j : Input) → IsFragmentSpread depth i x j → Ends j →
    spread_with depth set i ≡ Ok (tree.FragmentSpread x, j)
unfolding spread_with fragment_spread_behind
spread_read depth set i x j is ends =
    let same : x ≡ record { name = x.name; directives = x.directives; span = between i j } =
    ap (λ s. let y : FragmentSpread = record { name = x.name; directives = x.directives; span = s } in y) is.span in
    let m = is.behind_dots in
    let n = is.behind_name in
    starting_read _ i _ (sequence_read _ _ i tt m _ (take_one_read _ _ i m is.dots)
    (choose_second _ _ _ m is.name.not_on ∙ choose_first _ _ _ m is.name.is_name.takes.comes ∙
    sequence_read _ _ m x.name n _ (fragment_name_read m x.name n is.name)
    (sequence_read _ _ n x.directives j _ (directives_read false depth n x.directives j is.directives (not_parenthesis j ends) (not_at j ends))
    (placed_read (start_of i) (λ span. tree.FragmentSpread (record { name = x.name; directives = x.directives; span = span })) j ∙
    ap (λ y. let r : Result (Selection × Input) Refusal = Ok (tree.FragmentSpread y, j) in r) (sym same)))))

selection_with_read : (depth : ℕ) (set : Reader SelectionSet) → SetRead depth set → (i : Input) (x : Selection) (j : Input) →
    IsSelection depth i x j → FieldEnds j → selection_with depth set i ≡ Ok (x, j)
unfolding selection_with
selection_with_read depth set reads _ _ _ (field i m n k l j alias name arguments directives selection_set aliased named ar ds ps) ends =
    let name_comes = field_name_comes i alias m name n aliased named in
    choose_second _ _ _ i (name_no_spread i name_comes) ∙ choose_first _ _ _ i name_comes ∙
    field_read depth set reads i m n k l j alias name arguments directives selection_set aliased named ar ds ps ends
selection_with_read depth set reads _ _ _ (fragment_spread i j x is) ends =
    choose_first _ _ _ i is.dots.comes ∙ spread_read depth set i x j is ends.ends
selection_with_read depth set reads _ _ _ (inline_fragment i m n k j condition directives selection_set dots conditioned ds is) ends =
    choose_first _ _ _ i dots.comes ∙ inline_spread_read depth set reads i m n k j condition directives selection_set dots conditioned ds is

-- one after another, as the grammar of selections says it
many_selections : (depth : ℕ) (i : Input) (xs : List Selection) (j : Input) → AreSelections depth i xs j → Many (IsSelection depth) i xs j
many_selections depth _ _ _ (no_selections i) = nothing i
many_selections depth _ _ _ (more_selections i m j x xs is are) = more i m j x xs is (many_selections depth m xs j are)

set_with_read : (depth : ℕ) (selection : Reader Selection) → Item (IsSelection depth) (more_test (Until RightBrace)) selection FieldEnds →
    SetRead (suc depth) (selection_set_with selection)
unfolding selection_set_with
set_with_read depth selection item _ _ _ (in_braces i m n k j x xs opens is are closes) =
    starting_read _ i _ (sequence_read _ _ i tt m _ (take_one_read _ _ i m opens)
    (sequence_read _ _ m (x ∷ xs) k _
    (some_read (IsSelection depth) (more_test (Until RightBrace)) selection FieldEnds item m (x ∷ xs) k (some m n k x xs is (many_selections depth n xs k are))
    (closing_ends k closes.comes) (closing_stops RightBrace k closes.comes))
    (sequence_read _ _ k tt j _ (take_one_read _ _ k j closes) (placed_read (start_of i) (λ span. let y : SelectionSet = record { selections = x ∷ xs; span = span } in y) j))))

selection_item : (depth : ℕ) → SetRead depth (selection_set_at depth) → Item (IsSelection depth) (more_test (Until RightBrace)) (selection_at depth) FieldEnds
selection_item depth reads = record {
  reads = selection_with_read depth (selection_set_at depth) reads;
  passes = λ i x j is. begins_goes_on i (selection_begins depth i x j is);
  follows = λ i x j is. begins_ends i (selection_begins depth i x j is);
  moves = selection_moves depth;
}

pub selection_set_read : (depth : ℕ) → SetRead depth (selection_set_at depth)
unfolding selection_set_at
selection_set_read zero i x j is = absurd (omega (arith, no_set_at_zero 0 i x j is))
selection_set_read (suc depth) i x j is = set_with_read depth (selection_at depth) (selection_item depth (selection_set_read depth)) i x j is
