pub mod CsrSources
