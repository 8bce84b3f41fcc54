-- The usual segments and sections: Apple's mach-o/loader.h.
use Rattle.std.specs.Prelude.{ℕ, List, [], ◌∷◌, codes}
use Rattle.goblin_mach.specs.declared.constants.TheConstants.{SEG_PAGEZERO, SEG_TEXT, SECT_TEXT, SECT_FVMLIB_INIT0, SECT_FVMLIB_INIT1, SEG_DATA, SECT_DATA, SECT_BSS, SECT_COMMON, SEG_OBJC, SECT_OBJC_SYMBOLS, SECT_OBJC_MODULES, SECT_OBJC_STRINGS, SECT_OBJC_REFS, SEG_ICON, SECT_ICON_HEADER, SECT_ICON_TIFF, SEG_LINKEDIT, SEG_UNIXSTACK, SEG_IMPORT}

-- each constant beside its text
unfoldable pub segment_names : List (List ℕ × List ℕ)
segment_names =
    (SEG_PAGEZERO.now, codes "__PAGEZERO") ∷ (SEG_TEXT.now, codes "__TEXT") ∷ (SECT_TEXT.now, codes "__text")
    ∷ (SECT_FVMLIB_INIT0.now, codes "__fvmlib_init0") ∷ (SECT_FVMLIB_INIT1.now, codes "__fvmlib_init1") ∷ (SEG_DATA.now, codes "__DATA")
    ∷ (SECT_DATA.now, codes "__data") ∷ (SECT_BSS.now, codes "__bss") ∷ (SECT_COMMON.now, codes "__common")
    ∷ (SEG_OBJC.now, codes "__OBJC") ∷ (SECT_OBJC_SYMBOLS.now, codes "__symbol_table") ∷ (SECT_OBJC_MODULES.now, codes "__module_info")
    ∷ (SECT_OBJC_STRINGS.now, codes "__selector_strs") ∷ (SECT_OBJC_REFS.now, codes "__selector_refs") ∷ (SEG_ICON.now, codes "__ICON")
    ∷ (SECT_ICON_HEADER.now, codes "__header") ∷ (SECT_ICON_TIFF.now, codes "__tiff") ∷ (SEG_LINKEDIT.now, codes "__LINKEDIT")
    ∷ (SEG_UNIXSTACK.now, codes "__UNIXSTACK") ∷ (SEG_IMPORT.now, codes "__IMPORT") ∷ []
