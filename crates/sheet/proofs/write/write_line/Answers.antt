use Rattle.std.proofs.Common.{[], ◌∷◌, ◌++◌, ap, arith, length, length-append, length-drop}
use Rattle.sheet.proofs.Tapes.{after_more}
use Rattle.sheet.proofs.write.write_line.Goals as goal

pub write_bytes-requires-2 : goal.write_bytes-requires-2
write_bytes-requires-2 g c =
    rw (c.put.ensures.value, c.write_bytes.ensures.value)
    (simp length-drop (omega (arith, simp length-append at c.requires, ap length c.text.ensures.value, ap length c.as_bytes.ensures.value, ap length c.decimals.ensures.value)))

pub returns : goal.returns
returns g c =
    let digits = c.as_bytes.result.now in
    rw (← c.text.ensures.value, ← c.decimals.ensures.value, ← c.as_bytes.ensures.value)
    (record {
      value = after_more _ _ _ c.text.result.now (61 ∷ (digits ++ (10 ∷ []))) c.write_bytes.ensures.value
          (after_more _ _ _ (61 ∷ []) (digits ++ (10 ∷ [])) c.put.ensures.value (after_more _ _ _ digits (10 ∷ []) c.write_bytes-2.ensures.value c.put-2.ensures.value));
    })
