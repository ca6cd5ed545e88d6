-- The record whose values a borrowed one has.
use Rattle.ga_base.specs.declared.record.Record.{Record}
use Rattle.ga_base.specs.declared.record_ref.RecordRef.{RecordRef}

abbrev pub record_in : RecordRef → Record
record_in r = record {
  host = r.host.now;
  date = r.date;
  minute = r.minute;
  method = r.method.now;
  protocol = r.protocol.now;
  url = r.url.now;
  status = r.status;
  bytes = r.bytes;
  micros = r.micros;
  referrer = r.referrer.now;
  agent = r.agent.now;
  vhost = r.vhost.now;
  user = r.user.now;
  cache = r.cache.now;
  mime = r.mime.now;
  tls = r.tls.now;
}
