use Rattle.std.proofs.Common.{IsTrue}
use Rattle.std.proofs.lemmas.Bool.{false≢true}
use Rattle.std.specs.List.{Contains}
use Rattle.ga_requests.specs.Urls.{question_mark}
use Rattle.ga_requests.proofs.ExtensionLemmas.{static-known, static-own, not-static, plain-url}
use Rattle.ga_requests.proofs.urls.is_static_url.Goals as goal
use Rattle.ga_requests.proofs.urls.is_static_url.Goals.{else-path-url-via-then-path-url+else-not-all, else-path-url-via-else-path-url}

pub returns-then-not-all : goal.returns-then-not-all
returns-then-not-all c =
    let path-is = rw c.as_bytes-url.ensures.value at c.without_query-path.ensures in (
      λ ends. absurd (false≢true ends),
      λ static. absurd (not-static c.args.url.now c.without_query-path.result.now c.args.statics.now c.args.all path-is (rw c.as_bytes-url.ensures.value at c.if-path-url.true) c.if-not-all.true static),
    )

pub returns-then-has_extension : goal.returns-then-has_extension
returns-then-has_extension c =
    let path-is = rw c.as_bytes-url.ensures.value at c.without_query-path.ensures in
    let plain : Contains c.args.url.now question_mark → IsTrue c.args.all =
    elim c.else-path-url.branch [
      | else-path-url-via-then-path-url+else-not-all w ↦ λ _. w.if-not-all.false
      | else-path-url-via-else-path-url w ↦ plain-url c.args.url.now c.without_query-path.result.now c.args.statics.now c.args.all path-is (rw c.as_bytes-url.ensures.value at w.if-path-url.false)
    ] in
    static-known c.args.url.now c.without_query-path.result.now c.args.statics.now c.args.all path-is c.has_extension.result c.has_extension.ensures c.if-has_extension.true plain

pub returns-else-has_extension : goal.returns-else-has_extension
returns-else-has_extension c =
    let path-is = rw c.as_bytes-url.ensures.value at c.without_query-path.ensures in
    let plain : Contains c.args.url.now question_mark → IsTrue c.args.all =
    elim c.else-path-url.branch [
      | else-path-url-via-then-path-url+else-not-all w ↦ λ _. w.if-not-all.false
      | else-path-url-via-else-path-url w ↦ plain-url c.args.url.now c.without_query-path.result.now c.args.statics.now c.args.all path-is (rw c.as_bytes-url.ensures.value at w.if-path-url.false)
    ] in
    static-own c.args.url.now c.without_query-path.result.now c.args.statics.now c.args.all path-is c.has_extension.result c.ends_in_one_of.result c.has_extension.ensures c.if-has_extension.false c.ends_in_one_of.ensures plain
