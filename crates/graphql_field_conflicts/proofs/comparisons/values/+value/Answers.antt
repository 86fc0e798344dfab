use Rattle.std.proofs.Common.{◌↔◌, ap, sym, ◌∙◌, refl, subst, List, inl, inr}
use Rattle.graphql_documents.specs.declared.documents.values.Value.TheOpen as Open
use Rattle.graphql_documents.specs.declared.documents.values.Value.TheVariants as literal
use Rattle.std.proofs.lemmas.List.{take_all}
use Rattle.std.specs.Prelude.{IsTrue, string_bytes}
use Rattle.graphql_nodes.specs.Names.{NameText}
use Rattle.graphql_documents.specs.Values.{SameValue}
use Rattle.graphql_nodes.specs.declared.nodes.Node.{Node}
use Rattle.graphql_documents.specs.declared.documents.values.Value.{Value, out-Value}
use Rattle.graphql_field_conflicts.specs.Comparisons.{SameEntries, SameItems, StandIn}
use Rattle.graphql_field_conflicts.proofs.ValueComparisonLemmas.{entry_decides, more_stand_in, must_have, names_decide, same_objects, same_opened, texts_decide, truths_decide}
use Rattle.graphql_field_conflicts.proofs.comparisons.values.+value.Goals as goal
use Rattle.graphql_field_conflicts.proofs.comparisons.values.+value.Goals.{stand_in-else-not-is_repeated-via-then-not-is_repeated+else-not-stands_in, stand_in-else-not-is_repeated-via-else-not-is_repeated}

pub same_value-returns-in-Null-Null : goal.same_value-returns-in-Null-Null
same_value-returns-in-Null-Null t c =
    same_opened Open.Null Open.Null (ap out-Value c.in-Null-Null.is-0 ∙ literal.outs-Null) (ap out-Value c.in-Null-Null.is-1 ∙ literal.outs-Null) _ (λ e. tt, λ same. refl)

pub same_value-returns-in-Enum-Enum : goal.same_value-returns-in-Enum-Enum
same_value-returns-in-Enum-Enum t c =
    let m = c.in-Enum-Enum in
    same_opened (Open.Enum m.a) (Open.Enum m.b) (ap out-Value m.is-0 ∙ literal.outs-Enum m.a) (ap out-Value m.is-1 ∙ literal.outs-Enum m.b) c.eq.result
    (names_decide m.a m.b c.eq.result c.eq.ensures)

pub same_value-returns-in-Variable-Variable : goal.same_value-returns-in-Variable-Variable
same_value-returns-in-Variable-Variable t c =
    let m = c.in-Variable-Variable in
    let eq = c.eq-in-Variable-Variable in
    same_opened (Open.Variable m.a) (Open.Variable m.b) (ap out-Value m.is-0 ∙ literal.outs-Variable m.a) (ap out-Value m.is-1 ∙ literal.outs-Variable m.b) eq.result
    (names_decide m.a m.b eq.result eq.ensures)

pub same_value-returns-in-String-String : goal.same_value-returns-in-String-String
same_value-returns-in-String-String t c =
    let m = c.in-String-String in
    let eq = c.eq-in-String-String in
    same_opened (Open.String m.a) (Open.String m.b) (ap out-Value m.is-0 ∙ literal.outs-String m.a) (ap out-Value m.is-1 ∙ literal.outs-String m.b) eq.result
    (texts_decide (string_bytes m.a) (string_bytes m.b) eq.result eq.ensures)

pub same_value-returns-in-Float-Float : goal.same_value-returns-in-Float-Float
same_value-returns-in-Float-Float t c =
    let m = c.in-Float-Float in
    let eq = c.eq-in-Float-Float in
    same_opened (Open.Float m.a) (Open.Float m.b) (ap out-Value m.is-0 ∙ literal.outs-Float m.a) (ap out-Value m.is-1 ∙ literal.outs-Float m.b) eq.result
    (texts_decide m.a m.b eq.result eq.ensures)

pub same_value-returns-in-Int-Int : goal.same_value-returns-in-Int-Int
same_value-returns-in-Int-Int t c =
    let m = c.in-Int-Int in
    let eq = c.eq-in-Int-Int in
    same_opened (Open.Int m.a) (Open.Int m.b) (ap out-Value m.is-0 ∙ literal.outs-Int m.a) (ap out-Value m.is-1 ∙ literal.outs-Int m.b) eq.result
    (texts_decide m.a m.b eq.result eq.ensures)

pub same_value-returns-in-Boolean-Boolean : goal.same_value-returns-in-Boolean-Boolean
same_value-returns-in-Boolean-Boolean t c =
    let m = c.in-Boolean-Boolean in
    same_opened (Open.Boolean m.a) (Open.Boolean m.b) (ap out-Value m.is-0 ∙ literal.outs-Boolean m.a) (ap out-Value m.is-1 ∙ literal.outs-Boolean m.b) _ (truths_decide m.a m.b)

pub same_value-returns-in-List-List : goal.same_value-returns-in-List-List
same_value-returns-in-List-List t c =
    let m = c.in-List-List in
    same_opened (Open.List m.a) (Open.List m.b) (ap out-Value m.is-0 ∙ literal.outs-List m.a) (ap out-Value m.is-1 ∙ literal.outs-List m.b) c.same_items.result
    (subst (λ (xs : List (Node Value)). IsTrue c.same_items.result ↔ SameItems xs m.b.items) c.deref.ensures.value
    (subst (λ (ys : List (Node Value)). IsTrue c.same_items.result ↔ SameItems c.deref.result.now ys) c.deref-in-List-List.ensures.value c.same_items.ensures))

pub same_value-returns-in-Object-Object : goal.same_value-returns-in-Object-Object
same_value-returns-in-Object-Object t c =
    let m = c.in-Object-Object in
    let decided = subst (λ (xs : List (NameText × Node Value)). IsTrue c.same_entries.result ↔ SameEntries xs m.b.items) c.deref-in-Object-Object.ensures.value
    (subst (λ (ys : List (NameText × Node Value)). IsTrue c.same_entries.result ↔ SameEntries c.deref-in-Object-Object.result.now ys) c.deref-in-Object-Object-2.ensures.value c.same_entries.ensures) in
    let same = same_objects m.a.items m.b.items in
    same_opened (Open.Object m.a) (Open.Object m.b) (ap out-Value m.is-0 ∙ literal.outs-Object m.a) (ap out-Value m.is-1 ∙ literal.outs-Object m.b) c.same_entries.result
    (λ e. same.0 (decided.0 e), λ s. decided.1 (same.1 s))

pub same_entries-returns-then-has_keys_of : goal.same_entries-returns-then-has_keys_of
same_entries-returns-then-has_keys_of t c = (λ e. (c.has_keys_of.ensures.0 c.if-has_keys_of.true, c.stand_in.ensures.0 e), λ same. c.stand_in.ensures.1 same.1)

pub stands_in-returns-in-Some : goal.stands_in-returns-in-Some
stands_in-returns-in-Some t c =
    let other = c.in-Some.other.now in
    entry_decides c.args.entries.now c.args.key.now c.args.value.now other c.in-Some.ensures c.same_value.result
    (subst (λ (x : Value). IsTrue c.same_value.result ↔ SameValue x other.value.value) c.deref.ensures
    (subst (λ (y : Value). IsTrue c.same_value.result ↔ SameValue c.deref.result.now y) c.deref-in-Some.ensures c.same_value.ensures))

pub stand_in-loop-i-preserved : goal.stand_in-loop-i-preserved
stand_in-loop-i-preserved t c =
    more_stand_in c.args.entries.now c.loop-i.i c.index-entries-i.result c.args.others.now c.loop-i-test.true c.index-entries-i.is c.loop-i.invariant
    (elim c.else-not-is_repeated.branch [
      | stand_in-else-not-is_repeated-via-then-not-is_repeated+else-not-stands_in w ↦ inr (w.stands_in.ensures.0 w.if-not-stands_in.false)
      | stand_in-else-not-is_repeated-via-else-not-is_repeated w ↦ inl (c.is_repeated.ensures.0 w.if-not-is_repeated.false)
    ])

pub stand_in-returns-then-not-stands_in : goal.stand_in-returns-then-not-stands_in
stand_in-returns-then-not-stands_in t c = (
  λ e. absurd (let no : ⊥ = cc in no),
  λ stand. sym c.if-not-stands_in.true ∙ c.stands_in.ensures.1
      (must_have c.args.entries.now c.loop-i.i c.index-entries-i.result c.args.others.now c.loop-i-test.true c.index-entries-i.is
      (λ known. let is = sym (c.is_repeated.ensures.1 known) ∙ c.if-not-is_repeated.true in let no : ⊥ = cc in no) stand),
)

pub stand_in-returns : goal.stand_in-returns
stand_in-returns t c =
    (λ e. subst (λ l. StandIn l c.args.others.now) (take_all c.loop-i.i c.args.entries.now c.loop-i-test.false) c.loop-i.invariant, λ stand. refl)
