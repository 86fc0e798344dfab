use Rattle.std.proofs.Common.{◌↔◌, ap, sym, ◌∙◌, subst, take, List, inl, inr}
use Rattle.graphql_documents.specs.declared.documents.values.Value.TheOpen as Open
use Rattle.graphql_documents.specs.declared.documents.values.Value.TheVariants as literal
use Rattle.std.proofs.lemmas.List.{take_all}
use Rattle.std.proofs.lemmas.Result.{IfOk-weaker}
use Rattle.std.specs.Prelude.{IsNone, IsSome, IsTrue}
use Rattle.graphql_nodes.specs.Names.{NameText}
use Rattle.graphql_documents.specs.Values.{SameValue}
use Rattle.graphql_nodes.specs.declared.nodes.Node.{Node}
use Rattle.graphql_documents.specs.declared.documents.values.Value.{Value, out-Value}
use Rattle.graphql_field_conflicts.specs.Comparisons.{HasEntry, HasKeysOf, SameEntries, SameItems, StandIn}
use Rattle.graphql_name_tables.proofs.PlaceLemmas.{is_nothing, is_something}
use Rattle.graphql_field_conflicts.proofs.FirstNamedLemmas.{first_named}
use Rattle.graphql_field_conflicts.proofs.ValueComparisonLemmas.{entry_decides, key, known_entry, more_stand_in, must_have, none_stand_in, same_objects, same_opened, some_value}
use Rattle.graphql_field_conflicts.proofs.comparisons.equal_values.+equal.Goals as goal
use Rattle.graphql_field_conflicts.proofs.comparisons.equal_values.+equal.Goals.{have_same_entries-else-branch-via-then-branch+in_ok-stands_in+else-not-branch, have_same_entries-else-branch-via-else-branch}

pub is_same_value-returns-in-List-List : goal.is_same_value-returns-in-List-List
is_same_value-returns-in-List-List t c =
    let m = c.in-List-List in
    IfOk-weaker c.have_same_items.result (λ same. IsTrue same ↔ SameItems c.deref.result.now c.deref-in-List-List.result.now)
    (λ same. IsTrue same ↔ SameValue c.args.a.now c.args.b.now)
    (λ same decides.
    same_opened (Open.List m.a) (Open.List m.b) (ap out-Value m.is-0 ∙ literal.outs-List m.a) (ap out-Value m.is-1 ∙ literal.outs-List m.b) same
    (subst (λ (xs : List (Node Value)). IsTrue same ↔ SameItems xs m.b.items) c.deref.ensures.value
    (subst (λ (ys : List (Node Value)). IsTrue same ↔ SameItems c.deref.result.now ys) c.deref-in-List-List.ensures.value decides)))
    c.have_same_items.ensures

pub is_same_value-returns-in-Object-Object : goal.is_same_value-returns-in-Object-Object
is_same_value-returns-in-Object-Object t c =
    let m = c.in-Object-Object in
    let alike = same_objects m.a.items m.b.items in
    IfOk-weaker c.have_same_entries.result (λ same. IsTrue same ↔ SameEntries c.deref-in-Object-Object.result.now c.deref-in-Object-Object-2.result.now)
    (λ same. IsTrue same ↔ SameValue c.args.a.now c.args.b.now)
    (λ same decides.
    let decided = subst (λ (xs : List (NameText × Node Value)). IsTrue same ↔ SameEntries xs m.b.items) c.deref-in-Object-Object.ensures.value
    (subst (λ (ys : List (NameText × Node Value)). IsTrue same ↔ SameEntries c.deref-in-Object-Object.result.now ys) c.deref-in-Object-Object-2.ensures.value decides) in
    same_opened (Open.Object m.a) (Open.Object m.b) (ap out-Value m.is-0 ∙ literal.outs-Object m.a) (ap out-Value m.is-1 ∙ literal.outs-Object m.b) same
    (λ e. alike.0 (decided.0 e), λ s. decided.1 (alike.1 s)))
    c.have_same_entries.ensures

pub have_same_entries-loop-i-init : goal.have_same_entries-loop-i-init
have_same_entries-loop-i-init t c = record { stand = none_stand_in c.args.b.now; seen = c.in_ok-seen.ensures }

pub have_same_entries-returns-then-not-branch : goal.have_same_entries-returns-then-not-branch
have_same_entries-returns-then-not-branch t c =
    let a = c.args.a.now in
    let b = c.args.b.now in
    let i = c.loop-i.i in
    let e = c.index-a-i.result in
    let first = subst (λ (l : List (NameText × Node Value)). IsTrue c.in_ok-grow.field-0 ↔ IsNone (first_named key e.0 l)) c.loop-i.invariant.seen c.in_ok-grow.ensures.first in
    let none = is_nothing (first_named key e.0 (take i a)) (first.0 c.if-branch.true) in
    let decides = subst (λ (l : List (NameText × Node Value)). IsTrue c.in_ok-stands_in.field-0 ↔ HasEntry l e.0 e.1) c.in_ok-others.ensures c.in_ok-stands_in.ensures in (
      λ e. absurd (let no : ⊥ = cc in no),
      λ same. sym c.if-not-branch.true ∙ decides.1
          (must_have a i e b c.loop-i-test.true c.index-a-i.is
          (λ before. let some = subst IsSome none (known_entry e.0 (take i a) before) in let no : ⊥ = cc in no) same.1),
    )

pub have_same_entries-loop-i-preserved : goal.have_same_entries-loop-i-preserved
have_same_entries-loop-i-preserved t c =
    let a = c.args.a.now in
    let b = c.args.b.now in
    let i = c.loop-i.i in
    let e = c.index-a-i.result in
    let first = subst (λ (l : List (NameText × Node Value)). IsTrue c.in_ok-grow.field-0 ↔ IsNone (first_named key e.0 l)) c.loop-i.invariant.seen c.in_ok-grow.ensures.first in
    record {
      stand = more_stand_in a i e b c.loop-i-test.true c.index-a-i.is c.loop-i.invariant.stand
          (elim c.else-branch.branch [
            | have_same_entries-else-branch-via-then-branch+in_ok-stands_in+else-not-branch w ↦
                let decides = subst (λ (l : List (NameText × Node Value)). IsTrue w.in_ok-stands_in.field-0 ↔ HasEntry l e.0 e.1) c.in_ok-others.ensures w.in_ok-stands_in.ensures in
                inr (decides.0 w.if-not-branch.false)
            | have_same_entries-else-branch-via-else-branch w ↦
                let known = first_named key e.0 (take i a) in
                inl (some_value known (is_something known (λ none. let is = first.1 none in let no : ⊥ = cc in no)))
          ]);
      seen = c.in_ok-grow.ensures.elements;
    }

pub have_same_entries-returns : goal.have_same_entries-returns
have_same_entries-returns t c =
    let a = c.args.a.now in
    let b = c.args.b.now in
    let whole = take_all c.loop-i.i a c.loop-i-test.false in
    let keys = subst (λ (l : List (NameText × Node Value)). IsTrue c.has_keys_of.result ↔ HasKeysOf l b) (c.loop-i.invariant.seen ∙ whole) c.has_keys_of.ensures in
    (λ has. (keys.0 has, subst (λ l. StandIn l b) whole c.loop-i.invariant.stand), λ same. keys.1 same.0)

pub stands_in-returns-in-Some : goal.stands_in-returns-in-Some
stands_in-returns-in-Some t c =
    let entries = c.args.entries.now in
    let entry = c.args.entry.now in
    let other = c.in-Some.other.now in
    IfOk-weaker c.is_same_value.result (λ same. IsTrue same ↔ SameValue c.deref.result.now c.deref-in-Some.result.now)
    (λ same. IsTrue same ↔ HasEntry entries entry.0 entry.1)
    (λ same decides.
    entry_decides entries entry.0 entry.1 other c.in-Some.ensures same
    (subst (λ (x : Value). IsTrue same ↔ SameValue x other.value.value) c.deref.ensures
    (subst (λ (y : Value). IsTrue same ↔ SameValue c.deref.result.now y) c.deref-in-Some.ensures decides)))
    c.is_same_value.ensures
