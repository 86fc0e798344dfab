use Rattle.std.proofs.Common.{◌≡◌, ◌-◌, ◌<◌, [], ◌∷◌, ◌++◌, length, ap, subst, ◌∙◌, arith}
use Rattle.std.proofs.lemmas.Bool.Decides.{nat_tests}
use Rattle.std.proofs.lemmas.List.{length-append}
use Rattle.graphql_tokens.specs.Lexical.{nothing, AreTokens, BreaksOff, GoesOn, Lexes, token_between}
use Rattle.graphql_tokens.specs.Scans.{after_all, ignored_at}
use Rattle.graphql_tokens.proofs.IgnoredLemmas.{lexes_behind_ignored, none_ignored, ignored_within, none_left}
use Rattle.graphql_tokens.proofs.TokenScans.{token_is, token_shorter}
use Rattle.graphql_tokens.proofs.LexingLemmas.{then_token, stuck_at}
use Rattle.graphql_tokens.proofs.lexer.scan_into.Goals as goal

pub loop-rest-init : goal.loop-rest-init
loop-rest-init c =
    let text = c.args.text.now in
    let at : c.after_ignored-rest.result.now ≡ after_all ignored_at text = c.after_ignored-rest.ensures ∙ ap (λ l. after_all ignored_at l) c.as_bytes-source.ensures.value in
    record {
      lexes = rw (c.requires.none, at) (lexes_behind_ignored (length text) text [] text (nothing text));
      no_more_ignored = rw at (none_ignored text);
      within = rw at (ignored_within text);
      few = rw c.requires.none (omega arith);
    }

pub returns-in_default : goal.returns-in_default
returns-in_default c =
    let text = c.args.text.now in
    let rest = c.loop-rest.rest.now in
    let more : 0 < length rest = grind (arith, nat_tests, c.is_empty.ensures, c.loop-rest-test.true) in
    let breaks : BreaksOff text c.loop-rest.tokens.items (length c.as_bytes-source.result.now - length rest) = record {
      rest = rest;
      lexes = c.loop-rest.invariant.lexes;
      within = c.loop-rest.invariant.within;
      place = ap (λ l. length l - length rest) c.as_bytes-source.ensures.value;
      stuck = stuck_at rest more c.loop-rest.invariant.no_more_ignored c.in_default.ensures;
    } in
    (breaks, c.loop-rest.invariant.few)

pub returns-then-len-bound : goal.returns-then-len-bound
returns-then-len-bound c =
    let text = c.args.text.now in
    let rest = c.loop-rest.rest.now in
    let goes : GoesOn text c.loop-rest.tokens.items (length c.as_bytes-source.result.now - length rest) = record {
      rest = rest;
      behind = c.in-Some.behind.now;
      kind = c.in-Some.kind;
      lexes = c.loop-rest.invariant.lexes;
      within = c.loop-rest.invariant.within;
      place = ap (λ l. length l - length rest) c.as_bytes-source.ensures.value;
      one_more = token_is rest (c.in-Some.kind, c.in-Some.behind.now) c.in-Some.ensures;
    } in
    (goes, omega (arith, c.len.ensures, c.if-len-bound.true))

pub token_between-requires-clause-rest : goal.token_between-requires-clause-rest
token_between-requires-clause-rest c =
    let is = token_is c.loop-rest.rest.now (c.in-Some.kind, c.in-Some.behind.now) c.in-Some.ensures in
    omega (arith, token_shorter c.in-Some.kind c.loop-rest.rest.now c.in-Some.behind.now is, c.loop-rest.invariant.within, ap length c.as_bytes-source.ensures.value)

pub loop-rest-smaller : goal.loop-rest-smaller
loop-rest-smaller c =
    let is = token_is c.loop-rest.rest.now (c.in-Some.kind, c.in-Some.behind.now) c.in-Some.ensures in
    rw c.after_ignored-rest-in-loop-rest.ensures
    (omega (arith, token_shorter c.in-Some.kind c.loop-rest.rest.now c.in-Some.behind.now is, ignored_within c.in-Some.behind.now))

pub loop-rest-preserved : goal.loop-rest-preserved
loop-rest-preserved c =
    let text = c.args.text.now in
    let rest = c.loop-rest.rest.now in
    let behind = c.in-Some.behind.now in
    let tokens = c.loop-rest.tokens.items in
    let is = token_is rest (c.in-Some.kind, behind) c.in-Some.ensures in
    let found = c.token_between.ensures ∙ ap (λ l. token_between (length l) c.in-Some.kind rest behind) c.as_bytes-source.ensures.value in
    let more = tokens ++ token_between (length text) c.in-Some.kind rest behind ∷ [] in
    let are : c.push.new.self.items ≡ more = c.in_ok-push.ensures.items ∙ ap (λ t. tokens ++ t ∷ []) found in
    let then = then_token (length text) text tokens rest behind c.in-Some.kind c.loop-rest.invariant.lexes is in
    record {
      lexes = rw (are, c.after_ignored-rest-in-loop-rest.ensures) (lexes_behind_ignored (length text) text more behind then);
      no_more_ignored = rw c.after_ignored-rest-in-loop-rest.ensures (none_ignored behind);
      within = rw c.after_ignored-rest-in-loop-rest.ensures (omega (arith, ignored_within behind, token_shorter c.in-Some.kind rest behind is, c.loop-rest.invariant.within));
      few = rw are (omega (arith, length-append tokens (token_between (length text) c.in-Some.kind rest behind ∷ []), c.loop-rest.invariant.few, c.len.ensures, c.if-len-bound.false));
    }

pub returns : goal.returns
returns c =
    let text = c.args.text.now in
    let empty = none_left c.loop-rest.rest.now (grind (arith, nat_tests, c.is_empty.ensures, c.loop-rest-test.false)) in
    let all : AreTokens text c.loop-rest.tokens.items = subst (λ l. Lexes (length text) text c.loop-rest.tokens.items l) empty c.loop-rest.invariant.lexes in
    (all, c.loop-rest.invariant.few)
