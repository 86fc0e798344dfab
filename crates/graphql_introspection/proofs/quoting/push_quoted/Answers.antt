-- The characters so far, and in the end all of them, are written.
use Rattle.std.proofs.Common.{◌≡◌, [], ◌∷◌, ◌++◌, encode_utf8_all, string_bytes, sym, ap, subst, ◌∙◌, map-id, append-nil}
use Rattle.std.proofs.lemmas.Iterator.{YieldsList-from_chars}
use Rattle.std.proofs.lemmas.Iterator.Consumers.{YieldsList-end}
use Rattle.std.proofs.lemmas.Str.{encodes-chars}
use Rattle.graphql_introspection.specs.Quoting.{AppendsCharacters}
use Rattle.graphql_introspection.proofs.QuotingLemmas.{one_more, spells_none, string_added}
use Rattle.graphql_introspection.proofs.quoting.push_quoted.Goals as goal

pub loop-c-init : goal.loop-c-init
loop-c-init c = ([], c.in_ok-push_str.ensures.bytes ∙ sym (append-nil (string_bytes c.args.text.now ++ 34 ∷ [])), spells_none)

pub loop-c-preserved : goal.loop-c-preserved
loop-c-preserved c =
    one_more (string_bytes c.args.text.now ++ 34 ∷ []) (string_bytes c.loop-c.text) (string_bytes c.push_character.new.text) c.loop-c.yielded c.in-Some.c
    c.loop-c.invariant c.in_ok-push_character.ensures

pub returns : goal.returns
returns c =
    let done = YieldsList-end (YieldsList-from_chars c.args.value.now c.utf8.value cc) c.loop-c.yielded _ c.loop-c.yielded_by _ _ c.in-None.is c.next.ensures.steps in
    let whole : encode_utf8_all c.loop-c.yielded ≡ c.args.value.now =
    ap encode_utf8_all (sym (map-id c.loop-c.yielded) ∙ done.0) ∙ encodes-chars c.args.value.now c.utf8.value in
    string_added c.push_str-2.result (string_bytes c.args.text.now) (string_bytes c.loop-c.text) (string_bytes c.push_str-2.new.self) c.args.value.now
    (subst (λ v. AppendsCharacters (string_bytes c.args.text.now ++ 34 ∷ []) v (string_bytes c.loop-c.text)) whole c.loop-c.invariant) c.push_str-2.ensures.bytes c.utf8.value
